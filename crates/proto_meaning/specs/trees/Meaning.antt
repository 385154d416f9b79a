-- What a resolved tree stands for, given the prototypes of the numbers in it: the steps of
-- proto_meaning, in which no prototype is looked up by name, and none is declared.
use Rattle.std.specs.Prelude.{ℕ, Bool, false, if◌then◌else◌, List, [], ◌∷◌, ◌++◌, length, map, Option, Some, None, option_map, is_none, is_some, Ok, Err, slice_get}
use Rattle.std.specs.Option.{option_map_or}
use Rattle.classic_tree.specs.declared.tree.BodyItem.TheOpen.{NodeText-F, Statement-F}
use Rattle.classic_tree.specs.declared.tree.Declaration.{Declaration}
use Rattle.classic_tree.specs.declared.tree.Given.{Given}
use Rattle.classic_tree.specs.declared.tree.Given.TheVariants as given
use Rattle.classic_tree.specs.declared.tree.NodeText.{NodeText}
use Rattle.classic_tree.specs.declared.tree.ProtoText.{out-ProtoText}
use Rattle.classic_tree.specs.declared.tree.RawValue.{RawValue}
use Rattle.classic_tree.specs.declared.tree.RawValue.TheVariants as value
use Rattle.proto_flat.specs.declared.fault.ExpandFaultKind.TheVariants.{UnknownField}
use Rattle.proto_flat.specs.declared.flat.Flat.{Flat}
use Rattle.proto_flat.specs.declared.flat.Header.{Header}
use Rattle.proto_meaning.specs.Limits.{Outcome, and_then, item_count}
use Rattle.proto_meaning.specs.Names.{Field, Filled, value_of}
use Rattle.proto_meaning.specs.Sight.{Put, Instance, Prototype, Look, Owner, OfType, OfProto}
use Rattle.proto_meaning.specs.Flat as flat
use Rattle.proto_meaning.specs.Flat.{Does, ◌>>=◌, comes, pure, refuse, note, through, part, nothing_found, Node, Item, Stated, Inside, put_in, field, numbered_from, is_filled, is_script, fill, give, full_node, in_body, begin, made}
use Rattle.proto_meaning.specs.trees.Values.{left_by, plain, value_at}
use Rattle.proto_meaning.specs.declared.tree.BodyTree.{BodyTree}
use Rattle.proto_meaning.specs.declared.tree.BodyTree.TheVariants as body
use Rattle.proto_meaning.specs.declared.tree.DefaultTree.{DefaultTree}
use Rattle.proto_meaning.specs.trees.Given.{GivenTree}
use Rattle.proto_meaning.specs.declared.tree.GivenTree.TheVariants.{Nothing, Is, Plain, One, Many, LeftOut}
use Rattle.proto_meaning.specs.declared.tree.ItemTree.{ItemTree, fold-ItemTree}
use Rattle.proto_meaning.specs.declared.tree.ItemTree.TheOpen.{ItemTree-F, NodeTree-F}
use Rattle.proto_meaning.specs.declared.tree.NodeTree.{NodeTree, fold-NodeTree}
use Rattle.proto_meaning.specs.declared.tree.ProtoTree.{ProtoTree}
use Rattle.proto_meaning.specs.declared.tree.Word.{Word}
use Rattle.proto_meaning.specs.declared.tree.Word.TheVariants as word

-- ---- values

abbrev pub holds : ℕ → ℕ × Field → Inside → RawValue Node → Does Inside
holds line f i v = put_in v >>= λ r. pure (fill line f i (Some r))

abbrev pub gives : ℕ → ℕ × Field → Bool → GivenTree Node → Inside → Does Inside
gives line f twice Nothing i = give line f twice given.Nothing i
gives line f twice (Is outer) i = give line f twice (given.Is outer.now) i
gives line f twice (Plain v) i =
    value_at line f twice (item_count v.now) i (holds line f i (plain v.now))
gives line f twice (One n) i = value_at line f twice 1 i (holds line f i (value.Node n))
gives line f twice (Many count ns) i =
    value_at line f twice count i (holds line f i (value.NodeList ns))
gives line f twice (LeftOut wrong) i =
    value_at line f twice 0 i (left_by wrong >>= λ _. pure (fill line f i None))

-- a Script's declaration adds a field, as in `declare_field`
abbrev pub declares : Declaration NodeText → GivenTree Node → Inside → Does Inside
declares d g i =
    if is_script i.owner
    then gives d.line (length i.fields, field d) (is_some (numbered_from 0 d.name i.fields)) g
    (record i { fields = i.fields ++ field d ∷ [] })
    else refuse UnknownField d.line

-- ---- braces

-- parts that declare nothing, and in which a search finds nothing
abbrev pub quiet : {D : Type 0} → D → flat.Part Look D
quiet does = part nothing_found (λ s. Ok s) does

abbrev pub between : (Inside → Does Inside) → Item
between does = part nothing_found (λ taken s. Ok s) does

-- the declaration, with what it is given there
abbrev pub with_given : Declaration NodeText → Given Node → Declaration Node
with_given d g =
    record { line = d.line; access = d.access; field_type = d.field_type; name = d.name; given = g }

module _ (ps : List Prototype) where
  abbrev pub owner : Word → Option Owner
  owner word.Unknown = None
  owner (word.Node t) = Some (OfType t)
  owner (word.Instance number) = option_map OfProto (slice_get ps number)

  unfoldable pub item_step : ItemTree-F Item Node → Item
  item_step (ItemTree-F.Field line name g) = between (λ i.
      option_map_or (λ f. gives line f (is_filled name.now i) g i)
      (numbered_from 0 name.now i.fields) (refuse UnknownField line))
  item_step (ItemTree-F.Declaration d g) = between (declares d.now g)
  item_step (ItemTree-F.Route r) = between (λ i. flat.note_route r.now >>= λ _. pure i)
  item_step (ItemTree-F.Wrong e) = between (λ i w. comes (Err e))

  unfoldable pub node_step : NodeTree-F Item Node → Node
  node_step (NodeTree-F.Use line name) = flat.node_step (NodeText-F.Use line name.now)
  node_step (NodeTree-F.Full line name w items) =
      quiet (full_node line name.now items (owner w))

  abbrev pub item : ItemTree → Item
  item = fold-ItemTree Item Node item_step node_step

  abbrev pub node : NodeTree → Node
  node = fold-NodeTree Item Node item_step node_step

  -- ---- bodies

  abbrev pub statement : BodyTree → Stated
  statement (body.Node n) = flat.statement_step (Statement-F.Node (node n))
  statement (body.Route r) = flat.statement_step (Statement-F.Statement::Route r.now)
  statement (body.Wrong e) = (false, quiet (λ w. comes (Err e)))

  abbrev pub value_in : GivenTree NodeTree → Given Node
  value_in (Plain v) = given.Value (plain v.now)
  value_in (One n) = given.Value (value.Node (node n))
  value_in (Many count ns) = given.Value (value.NodeList (map node ns))
  value_in _ = given.Nothing

  -- only if the instance gives nothing
  abbrev pub default : DefaultTree → List Filled → Does (List Filled)
  default d filled =
      if is_none (value_of d.declaration.now.name filled)
      then flat.put_default (with_given d.declaration.now (value_in d.value)) filled
      (value_in d.value)
      else pure filled

  -- as in `instance_of`
  abbrev pub instance : ProtoTree → List Filled → Put → Outcome Instance
  instance p given put =
      and_then ((through default p.defaults given
      >>= λ all. note (tt {0}) (λ s. record s {
        interface = map field (out-ProtoText p.text.now).interface;
        given = all;
      })
      >>= λ _. through in_body (map statement p.body) []) (begin [] put))
      (λ r. made (out-ProtoText p.text.now).line r.0 r.1)

  -- what the statements give, without limits
  abbrev pub stand_together : Header → List BodyTree → Outcome Flat
  stand_together header statements = flat.stand_together header (map statement statements)
