-- What stays of a tree in one round, and the notes on it (ISO/IEC 19776-2, grammar; which nodes and
-- fields stay is our choice: Rules.antt). What stays is unchanged and in its order, but for the
-- word before the braces of a grouping node outside the table, and the name of the field that holds
-- its children.
use Rattle.std.specs.Prelude.{ℕ, Bool, true, false, not, List, [], ◌∷◌, ◌++◌, Option, Some, None, option_map, codes, if◌then◌else◌}
use Rattle.std.specs.List.{flat_map, list_any}
use Rattle.std.specs.Option.{option_to_list}
use Rattle.classic_tree.specs.declared.tree.BodyItem.{BodyItem, fold-BodyItem}
use Rattle.classic_tree.specs.declared.tree.BodyItem.TheOpen.{BodyItem-F, NodeText-F, Statement-F, ProtoText-F}
use Rattle.classic_tree.specs.declared.tree.BodyItem.TheVariants as item
use Rattle.classic_tree.specs.declared.tree.Declaration.{Declaration}
use Rattle.classic_tree.specs.declared.tree.Given.{Given}
use Rattle.classic_tree.specs.declared.tree.Given.TheVariants as given
use Rattle.classic_tree.specs.declared.tree.NodeText.{NodeText, fold-NodeText}
use Rattle.classic_tree.specs.declared.tree.NodeText.TheVariants as node
use Rattle.classic_tree.specs.declared.tree.ProtoText.{ProtoText, fold-ProtoText, roll-ProtoText}
use Rattle.classic_tree.specs.declared.tree.RawValue.{RawValue}
use Rattle.classic_tree.specs.declared.tree.RawValue.TheVariants as value
use Rattle.classic_tree.specs.declared.tree.RouteText.{RouteText}
use Rattle.classic_tree.specs.declared.tree.Statement.{Statement, fold-Statement}
use Rattle.classic_tree.specs.declared.tree.Statement.TheVariants as statement
use Rattle.classic_part.specs.declared.knowing.Known.{Known}
use Rattle.classic_part.specs.declared.notes.Note.{Note}
use Rattle.classic_part.specs.declared.notes.NoteKind.{NoteKind}
use Rattle.classic_part.specs.declared.notes.NoteKind.TheVariants as kind
use Rattle.classic_part.specs.declared.rules.FieldRule.{FieldRule}
use Rattle.classic_part.specs.declared.rules.FieldRule.TheVariants as rule
use Rattle.classic_part.specs.declared.rules.Meant.{Meant}
use Rattle.classic_part.specs.declared.rules.Meant.TheVariants as meant
use Rattle.classic_part.specs.Notes.{note, knows_name, refuses}
use Rattle.classic_part.specs.Rules.{meaning_of, word_of, turns, field_rule}

-- ---- parts

-- what stays of one thing, if it does, and the notes on it
pub record Part (A : Type 0) : Type 0 where
  pub kept : Option A
  pub notes : List Note

abbrev pub whole : {A : Type 0} → A → Part A
whole a = record { kept = Some a; notes = [] }

abbrev pub gone : {A : Type 0} → NoteKind → ℕ → List ℕ → List ℕ → Part A
gone kind line name field = record { kept = None; notes = note kind line name field ∷ [] }

-- what stays of each, in its order
abbrev pub kept_in : {A B : Type 0} → (A → Part B) → List A → List B
kept_in part xs = flat_map (λ x. option_to_list (part x).kept) xs

abbrev pub notes_in : {A B : Type 0} → (A → Part B) → List A → List Note
notes_in part xs = flat_map (λ x. (part x).notes) xs

abbrev pub part_by : {A B : Type 0} → (A → B) → Part A → Part B
part_by f p = record { kept = option_map f p.kept; notes = p.notes }

-- ---- values, given what stays of the nodes in them, by the field's name

abbrev pub list_of : List NodeText → RawValue NodeText
list_of [] = value.EmptyList
list_of (n ∷ ns) = value.NodeList (n ∷ ns)

-- a value without nodes, unchanged
abbrev pub plain : {N : Type 0} → RawValue N → RawValue NodeText
plain value.Null = value.Null
plain (value.Truth truth) = value.Truth truth
plain (value.String text) = value.String text
plain (value.Numbers numbers) = value.Numbers numbers
plain (value.Node n) = value.EmptyList
plain value.EmptyList = value.EmptyList
plain (value.TruthList truths) = value.TruthList truths
plain (value.StringList texts) = value.StringList texts
plain (value.NumberList numbers) = value.NumberList numbers
plain (value.NodeList ns) = value.EmptyList

-- an SFNode without its node is NULL
abbrev pub given_or : Option (Given NodeText) → Given NodeText
given_or None = given.Value value.Null
given_or (Some g) = g

abbrev pub declared_as : {N : Type 0} → Declaration N → Given NodeText → Declaration NodeText
declared_as d g =
    record {
      line = d.line;
      access = d.access;
      field_type = d.field_type;
      name = d.name;
      given = g;
    }

abbrev pub named_part : ℕ → List ℕ → Part (Given NodeText) → Part BodyItem
named_part line name g = part_by (item.Field line name) g

abbrev pub declared_part : {N : Type 0} → Declaration N → Part (Given NodeText)
    → Part (Declaration NodeText)
declared_part d g =
    record { kept = Some (declared_as d (given_or g.kept)); notes = g.notes }

module _ {N : Type 0} (node_part : List ℕ → N → Part NodeText) where
  abbrev pub value_part : List ℕ → RawValue N → Part (RawValue NodeText)
  value_part name (value.Node n) = part_by value.Node (node_part name n)
  value_part name (value.NodeList nodes) =
      record {
        kept = Some (list_of (kept_in (node_part name) nodes));
        notes = notes_in (node_part name) nodes;
      }
  value_part name v = whole (plain v)

  -- a field goes if its only node does
  abbrev pub given_part : List ℕ → Given N → Part (Given NodeText)
  given_part name given.Nothing = whole given.Nothing
  given_part name (given.Value v) = part_by given.Value (value_part name v)
  given_part name (given.Is outer) = whole (given.Is outer)

  abbrev pub declaration_part : Known → Declaration N → Part (Declaration NodeText)
  declaration_part known d =
      if refuses known d.line then gone kind.Refused d.line d.name []
      else declared_part d (given_part d.name d.given)

  abbrev pub ruled_part : ℕ → List ℕ → Given N → FieldRule → Part BodyItem
  ruled_part line name g rule.Stays = named_part line name (given_part name g)
  ruled_part line name g rule.Children =
      named_part line (codes "children") (given_part (codes "children") g)
  ruled_part line name g rule.Unknown = gone kind.Field line name []
  ruled_part line name g rule.Turned = gone kind.Turned line name []

  abbrev pub field_part : Known → ℕ → List ℕ → Given N → Meant → Part BodyItem
  field_part known line name g owner =
      if refuses known line then gone kind.Refused line name []
      else ruled_part line name g (field_rule owner name (turns g))

-- ---- routes and uses

abbrev pub joined_part : Known → RouteText → Part RouteText
joined_part known r =
    if not (knows_name known r.source.node) then gone kind.Route r.line r.source.node []
    else if not (knows_name known r.target.node) then gone kind.Route r.line r.target.node []
    else whole r

abbrev pub route_part : Known → RouteText → Part RouteText
route_part known r =
    if refuses known r.line then gone kind.Refused r.line (codes "ROUTE") []
    else joined_part known r

abbrev pub use_part : Known → ℕ → List ℕ → List ℕ → Part NodeText
use_part known line name field =
    if refuses known line then gone kind.Refused line name field
    else if knows_name known name then whole (node.Use line name)
    else gone kind.Use line name field

-- ---- nodes

abbrev pub grouped_notes : Meant → ℕ → List ℕ → List ℕ → List Note
grouped_notes (meant.Grouped t _) line word field = note kind.Grouped line word field ∷ []
grouped_notes _ line word field = []

abbrev pub named_notes : ℕ → Option (List ℕ) → List Note
named_notes line None = []
named_notes line (Some name) = note kind.Named line name [] ∷ []

abbrev pub is_nothing : Meant → Bool
is_nothing meant.Nothing = true
is_nothing _ = false

abbrev pub full : ℕ → Option (List ℕ) → List ℕ → List BodyItem → NodeText
full line name word items = node.Full line name word items

-- a node whose items stay as these, with these notes
abbrev pub braces_part : ℕ → Option (List ℕ) → List ℕ → List ℕ → Meant → List BodyItem → List Note
    → Part NodeText
braces_part line name word field m items notes =
    record {
      kept = Some (full line name (word_of m word) items);
      notes = grouped_notes m line word field ++ notes ++ named_notes line name;
    }

-- ---- prototypes

-- whether a statement is a node
unfoldable pub node_statement : {I N S P : Type 0} → Statement-F I N S P → Bool
node_statement (Statement-F.Node n) = true
node_statement (Statement-F.Statement::Route route) = false
node_statement (Statement-F.Statement::Proto proto) = false

abbrev pub is_node : Statement → Bool
is_node =
    fold-Statement (Unit {0}) (Unit {0}) Bool (Unit {0}) (λ _. tt) (λ _. tt) node_statement
    (λ _. tt)

-- a prototype needs a node in its body
abbrev pub proto_of : ℕ → List ℕ → List (Declaration NodeText) → List Statement → Option ProtoText
proto_of line name interface body =
    if list_any is_node body
    then Some (roll-ProtoText (record {
      line = line;
      name = name;
      interface = interface;
      body = body;
    }))
    else None

abbrev pub proto_note : ℕ → List ℕ → List Statement → Note
proto_note line name body =
    note (if list_any is_node body then kind.Declared else kind.Proto) line name []

abbrev pub body_part : ℕ → List ℕ → List (Declaration NodeText) → List Statement → List Note
    → Part ProtoText
body_part line name interface body notes =
    record {
      kept = proto_of line name interface body;
      notes = notes ++ proto_note line name body ∷ [];
    }

-- ---- each part, from its own parts

-- by what the word before the braces around it means
abbrev pub Item : Type 0
Item = Meant → Part BodyItem

-- by the field that the node is in
abbrev pub Node : Type 0
Node = List ℕ → Part NodeText

abbrev pub Stated : Type 0
Stated = Part Statement

abbrev pub Proto : Type 0
Proto = Part ProtoText

module _ (known : Known) where
  unfoldable pub item_step : BodyItem-F Item Node Stated Proto → Item
  item_step (BodyItem-F.Field line name g) owner =
      field_part (λ field (n : Node). n field) known line name g owner
  item_step (BodyItem-F.Declaration d) owner =
      part_by item.Declaration (declaration_part (λ field (n : Node). n field) known d)
  item_step (BodyItem-F.BodyItem::Route route) owner =
      part_by item.Route (route_part known route)
  item_step (BodyItem-F.BodyItem::Proto proto) owner = part_by item.Proto proto

  abbrev pub full_step : ℕ → Option (List ℕ) → List ℕ → List Item → List ℕ → Meant → Part NodeText
  full_step line name word items field m =
      if is_nothing m then gone kind.Node line word field
      else braces_part line name word field m (kept_in (λ (i : Item). i m) items)
      (notes_in (λ (i : Item). i m) items)

  unfoldable pub node_step : NodeText-F Item Node Stated Proto → Node
  node_step (NodeText-F.Use line name) field = use_part known line name field
  node_step (NodeText-F.Full line name word items) field =
      if refuses known line then gone kind.Refused line word field
      else full_step line name word items field (meaning_of known word)

  unfoldable pub statement_step : Statement-F Item Node Stated Proto → Stated
  statement_step (Statement-F.Node n) = part_by statement.Node (n [])
  statement_step (Statement-F.Statement::Route route) =
      part_by statement.Route (route_part known route)
  statement_step (Statement-F.Statement::Proto proto) = part_by statement.Proto proto

  unfoldable pub proto_step : ProtoText-F Item Node Stated Proto → Proto
  proto_step p =
      if refuses known p.line then gone kind.Refused p.line p.name []
      else body_part p.line p.name
      (kept_in (declaration_part (λ field (n : Node). n field) known) p.interface)
      (kept_in (λ (s : Stated). s) p.body)
      (notes_in (declaration_part (λ field (n : Node). n field) known) p.interface
      ++ notes_in (λ (s : Stated). s) p.body)

  abbrev pub item_part : BodyItem → Item
  item_part = fold-BodyItem Item Node Stated Proto item_step node_step statement_step proto_step

  abbrev pub node_part : NodeText → Node
  node_part = fold-NodeText Item Node Stated Proto item_step node_step statement_step proto_step

  abbrev pub statement_part : Statement → Stated
  statement_part =
      fold-Statement Item Node Stated Proto item_step node_step statement_step proto_step

  abbrev pub proto_part : ProtoText → Proto
  proto_part = fold-ProtoText Item Node Stated Proto item_step node_step statement_step proto_step
