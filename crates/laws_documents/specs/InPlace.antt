-- An instance is its prototype's body, written in its place (ISO/IEC 19775-1, 4.4.4). Here the
-- prototype has no interface, its body is one node, and instances may be anywhere in a text without
-- other prototypes, USE and ROUTE.
use Rattle.std.specs.Prelude.{◌≡◌, ◌⊎◌, ℕ, Bool, true, false, ◌&&◌, if◌then◌else◌, List, [], ◌∷◌, map, Option, is_none, Ok, Err}
use Rattle.std.specs.List.{list_all}
use Rattle.std.specs.Str.{bytes_eq}
use Rattle.classic_tree.specs.declared.tree.BodyItem.{BodyItem, fold-BodyItem}
use Rattle.classic_tree.specs.declared.tree.BodyItem.TheOpen.{BodyItem-F, NodeText-F, Statement-F, ProtoText-F}
use Rattle.classic_tree.specs.declared.tree.BodyItem.TheVariants as item
use Rattle.classic_tree.specs.declared.tree.Document.{Document}
use Rattle.classic_tree.specs.declared.tree.NodeText.{NodeText, fold-NodeText}
use Rattle.classic_tree.specs.declared.tree.NodeText.TheVariants as node
use Rattle.classic_tree.specs.declared.tree.ProtoText.{ProtoText, roll-ProtoText}
use Rattle.classic_tree.specs.declared.tree.Statement.{Statement, fold-Statement}
use Rattle.classic_tree.specs.declared.tree.Statement.TheVariants as statement
use Rattle.proto_flat.specs.Fault.{fault}
use Rattle.proto_flat.specs.declared.fault.ExpandFaultKind.TheVariants.{TooLarge}
use Rattle.proto_meaning.specs.Names.{Name}
use Rattle.proto_meaning.specs.Sight.{Sight, no_names}
use Rattle.proto_meaning.specs.Flat.{flat}
use Rattle.proto_meaning.specs.Flat.{statement as stated}
use Rattle.laws_documents.specs.Steps.{is_true, all_in, plain_proto_step}

-- ---- texts without PROTO, USE and ROUTE

abbrev pub none_inside : {A : Type 0} → List A → Bool
none_inside [] = true
none_inside (x ∷ xs) = false

-- braces after the prototype's name are those of an instance without DEF and fields, if instances
-- are allowed there
abbrev pub may_stand : Name → Bool → Option Name → Name → List Bool → Bool
may_stand proto allowed name word items =
    if bytes_eq proto word then allowed && is_none name && none_inside items
    else list_all is_true items

unfoldable pub quiet_item_step : BodyItem-F Bool Bool Bool Bool → Bool
quiet_item_step (BodyItem-F.Field line name g) = all_in g
quiet_item_step (BodyItem-F.Declaration d) = all_in d.given
quiet_item_step (BodyItem-F.BodyItem::Route route) = false
quiet_item_step (BodyItem-F.BodyItem::Proto b) = false

unfoldable pub quiet_node_step : Name → Bool → NodeText-F Bool Bool Bool Bool → Bool
quiet_node_step proto allowed (NodeText-F.Use line name) = false
quiet_node_step proto allowed (NodeText-F.Full line name word items) =
    may_stand proto allowed name word items

unfoldable pub quiet_statement_step : Statement-F Bool Bool Bool Bool → Bool
quiet_statement_step (Statement-F.Node b) = b
quiet_statement_step (Statement-F.Statement::Route route) = false
quiet_statement_step (Statement-F.Statement::Proto b) = false

abbrev pub is_quiet_item : Name → Bool → BodyItem → Bool
is_quiet_item proto allowed =
    fold-BodyItem Bool Bool Bool Bool quiet_item_step (quiet_node_step proto allowed)
    quiet_statement_step plain_proto_step

abbrev pub is_quiet_node : Name → Bool → NodeText → Bool
is_quiet_node proto allowed =
    fold-NodeText Bool Bool Bool Bool quiet_item_step (quiet_node_step proto allowed)
    quiet_statement_step plain_proto_step

abbrev pub is_quiet_statement : Name → Bool → Statement → Bool
is_quiet_statement proto allowed =
    fold-Statement Bool Bool Bool Bool quiet_item_step (quiet_node_step proto allowed)
    quiet_statement_step plain_proto_step

-- ---- the body in place of each instance

unfoldable pub item_step : BodyItem-F BodyItem NodeText Statement ProtoText → BodyItem
item_step (BodyItem-F.Field line name g) = item.Field line name g
item_step (BodyItem-F.Declaration d) = item.Declaration d
item_step (BodyItem-F.BodyItem::Route route) = item.Route route
item_step (BodyItem-F.BodyItem::Proto p) = item.Proto p

unfoldable pub node_step : Name → NodeText → NodeText-F BodyItem NodeText Statement ProtoText
    → NodeText
node_step proto body (NodeText-F.Use line name) = node.Use line name
node_step proto body (NodeText-F.Full line name word items) =
    if bytes_eq proto word then body else node.Full line name word items

unfoldable pub statement_step : Statement-F BodyItem NodeText Statement ProtoText → Statement
statement_step (Statement-F.Node n) = statement.Node n
statement_step (Statement-F.Statement::Route route) = statement.Route route
statement_step (Statement-F.Statement::Proto p) = statement.Proto p

unfoldable pub proto_step : ProtoText-F BodyItem NodeText Statement ProtoText → ProtoText
proto_step p = roll-ProtoText p

abbrev pub written_item : Name → NodeText → BodyItem → BodyItem
written_item proto body =
    fold-BodyItem BodyItem NodeText Statement ProtoText item_step (node_step proto body)
    statement_step proto_step

abbrev pub written_node : Name → NodeText → NodeText → NodeText
written_node proto body =
    fold-NodeText BodyItem NodeText Statement ProtoText item_step (node_step proto body)
    statement_step proto_step

abbrev pub written_statement : Name → NodeText → Statement → Statement
written_statement proto body =
    fold-Statement BodyItem NodeText Statement ProtoText item_step (node_step proto body)
    statement_step proto_step

-- ---- the law

-- PROTO proto [] { body }
abbrev pub declaration_of : ℕ → Name → NodeText → Statement
declaration_of line proto body =
    statement.Proto (roll-ProtoText (record {
      line = line;
      name = proto;
      interface = [];
      body = statement.Node body ∷ [];
    }))

abbrev pub nothing_in_sight : Sight
nothing_in_sight = record { here = []; outside = []; taken = no_names }

abbrev pub declared : Document → ℕ → Name → NodeText → List Statement → Document
declared d line proto body rest =
    record d { statements = declaration_of line proto body ∷ rest }

abbrev pub written_out : Document → Name → NodeText → List Statement → Document
written_out d proto body rest = record d { statements = map (written_statement proto body) rest }

-- a document that begins with the declaration, which has no fault, and the document in which the
-- body replaces each instance: they stand for the same, or the first is too large
abbrev pub InstancesAreTheirBodies : Type 0
InstancesAreTheirBodies =
    (d : Document) (line : ℕ) (proto : Name) (body : NodeText) (rest : List Statement)
    (sight : Sight)
    → (stated (declaration_of line proto body)).1.sees nothing_in_sight ≡ Ok sight
    → is_quiet_node proto false body ≡ true
    → list_all (is_quiet_statement proto true) rest ≡ true
    → (flat (declared d line proto body rest) ≡ flat (written_out d proto body rest))
    ⊎ (flat (declared d line proto body rest) ≡ Err (fault TooLarge 0))
