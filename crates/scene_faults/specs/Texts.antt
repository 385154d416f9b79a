-- Faults of a text before its prototypes are expanded, each told by the braces, the interface or
-- the list of statements around it (ISO/IEC 19775-1, 4.4.4, prototypes): a field that is given
-- twice; an IS of a name that the interface around it lacks, which outside of a PROTO is any; and a
-- PROTO with the name of a node type, or of an earlier PROTO in the same list. They are those of an
-- expansion (proto_meaning), all of them instead of the first.
use Rattle.std.specs.Prelude.{ℕ, Bool, not, List, [], ◌∷◌, ◌++◌, map, Option, Some, None, is_some, if◌then◌else◌}
use Rattle.std.specs.List.{flat_map, list_any}
use Rattle.std.specs.Option.{option_to_list}
use Rattle.std.specs.Str.{bytes_eq}
use Rattle.x3d_values.specs.Names.{node_type_named}
use Rattle.classic_tree.specs.declared.tree.BodyItem.{BodyItem, fold-BodyItem}
use Rattle.classic_tree.specs.declared.tree.BodyItem.TheOpen.{BodyItem-F, NodeText-F, Statement-F, ProtoText-F}
use Rattle.classic_tree.specs.declared.tree.Declaration.{Declaration}
use Rattle.classic_tree.specs.declared.tree.Document.{Document}
use Rattle.classic_tree.specs.declared.tree.Given.{Given}
use Rattle.classic_tree.specs.declared.tree.Given.TheVariants as given
use Rattle.classic_tree.specs.declared.tree.NodeText.{NodeText, fold-NodeText}
use Rattle.classic_tree.specs.declared.tree.ProtoText.{ProtoText, fold-ProtoText}
use Rattle.classic_tree.specs.declared.tree.RawValue.{RawValue}
use Rattle.classic_tree.specs.declared.tree.RawValue.TheVariants as value
use Rattle.classic_tree.specs.declared.tree.Statement.{Statement, fold-Statement}
use Rattle.proto_flat.specs.declared.fault.ExpandFaultKind.{ExpandFaultKind}
use Rattle.proto_flat.specs.declared.fault.ExpandFaultKind.TheVariants.{BadIs, FieldTwice, ProtoTwice}
use Rattle.scene_faults.specs.Blame.{of_expand}
use Rattle.scene_faults.specs.declared.blame.Blame.{Blame}
use Rattle.scene_faults.specs.declared.named.Named.{Named}

-- ---- names that are given twice

abbrev pub entry : ℕ → List ℕ → Named
entry line name = record { line = line; name = name }

abbrev pub has_name : List ℕ → Named → Bool
has_name name n = bytes_eq n.name name

-- the names that an earlier one of the list has, with those that come before the list
abbrev pub twice : ExpandFaultKind → List Named → List Named → List Blame
twice kind earlier [] = []
twice kind earlier (n ∷ ns) =
    (if list_any (has_name n.name) earlier then of_expand kind n.line ∷ [] else [])
    ++ twice kind (earlier ++ n ∷ []) ns

-- ---- what a name is given, by the names of the interface around it

abbrev pub Names : Type 0
Names = List (List ℕ)

abbrev pub is_one : List ℕ → Names → Bool
is_one name names = list_any (bytes_eq name) names

abbrev pub is_blames : Names → ℕ → List ℕ → List Blame
is_blames names line name =
    if not (is_one name names) then of_expand BadIs line ∷ [] else []

module _ {N : Type 0} (node : Names → N → List Blame) where
  abbrev pub value_blames : Names → RawValue N → List Blame
  value_blames names (value.Node n) = node names n
  value_blames names (value.NodeList ns) = flat_map (node names) ns
  value_blames names _ = []

  abbrev pub given_blames : Names → ℕ → Given N → List Blame
  given_blames names line (given.Value v) = value_blames names v
  given_blames names line (given.Is outer) = is_blames names line outer
  given_blames names line given.Nothing = []

  -- the default of an interface field, in which an IS finds nothing
  abbrev pub default_blames : Declaration N → List Blame
  default_blames d = given_blames [] d.line d.given

abbrev pub declared_name : {N : Type 0} → Declaration N → Named
declared_name d = entry d.line d.name

abbrev pub names_of : {N : Type 0} → List (Declaration N) → Names
names_of interface = map (λ d. d.name) interface

-- ---- each part, from its own parts

-- the name that an item gives something to, if it does, and its blames
pub record Item : Type 0 where
  pub named : Option Named
  pub blames : Names → List Blame

abbrev pub Node : Type 0
Node = Names → List Blame

-- the name of a PROTO, and the blames of a statement
pub record Stated : Type 0 where
  pub named : Option Named
  pub blames : Names → List Blame

pub record Proto : Type 0 where
  pub named : Named
  pub blames : List Blame

unfoldable pub item_step : BodyItem-F Item Node Stated Proto → Item
item_step (BodyItem-F.Field line name g) = record {
  named = Some (entry line name);
  blames = λ names. given_blames (λ outer (n : Node). n outer) names line g;
}
item_step (BodyItem-F.Declaration d) = record {
  named = Some (declared_name d);
  blames = λ names. given_blames (λ outer (n : Node). n outer) names d.line d.given;
}
item_step (BodyItem-F.BodyItem::Route route) = record { named = None; blames = λ names. [] }
item_step (BodyItem-F.BodyItem::Proto p) = record { named = None; blames = λ names. p.blames }

unfoldable pub node_step : NodeText-F Item Node Stated Proto → Node
node_step (NodeText-F.Use line name) names = []
node_step (NodeText-F.Full line name word items) names =
    twice FieldTwice [] (flat_map (λ (i : Item). option_to_list i.named) items)
    ++ flat_map (λ (i : Item). i.blames names) items

unfoldable pub statement_step : Statement-F Item Node Stated Proto → Stated
statement_step (Statement-F.Node n) = record { named = None; blames = n }
statement_step (Statement-F.Statement::Route route) =
    record { named = None; blames = λ names. [] }
statement_step (Statement-F.Statement::Proto p) =
    record { named = Some p.named; blames = λ names. p.blames }

-- statements of one list, in a scope with an interface of these names
abbrev pub statements_by : Names → List Stated → List Blame
statements_by names ss =
    twice ProtoTwice [] (flat_map (λ (s : Stated). option_to_list s.named) ss)
    ++ flat_map (λ (s : Stated). s.blames names) ss

abbrev pub type_blames : ℕ → List ℕ → List Blame
type_blames line name =
    if is_some (node_type_named name) then of_expand ProtoTwice line ∷ [] else []

unfoldable pub proto_step : ProtoText-F Item Node Stated Proto → Proto
proto_step p = record {
  named = entry p.line p.name;
  blames = type_blames p.line p.name ++ twice FieldTwice [] (map declared_name p.interface)
      ++ flat_map (default_blames (λ outer (n : Node). n outer)) p.interface
      ++ statements_by (names_of p.interface) p.body;
}

abbrev pub item : BodyItem → Item
item = fold-BodyItem Item Node Stated Proto item_step node_step statement_step proto_step

abbrev pub node : NodeText → Node
node = fold-NodeText Item Node Stated Proto item_step node_step statement_step proto_step

abbrev pub statement : Statement → Stated
statement = fold-Statement Item Node Stated Proto item_step node_step statement_step proto_step

abbrev pub proto : ProtoText → Proto
proto = fold-ProtoText Item Node Stated Proto item_step node_step statement_step proto_step

-- the statements of a list
abbrev pub statements_blames : Names → List Statement → List Blame
statements_blames names ss = statements_by names (map statement ss)

-- all such faults of a document
abbrev pub text_blames : Document → List Blame
text_blames d = statements_blames [] d.statements
