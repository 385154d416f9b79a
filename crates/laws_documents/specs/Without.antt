-- A document without its declarations: PROTOs are taken out, at any depth outside of them.
use Rattle.std.specs.Prelude.{◌≡◌, List, [], ◌∷◌, Ok}
use Rattle.std.specs.List.{flat_map}
use Rattle.classic_tree.specs.declared.tree.BodyItem.{BodyItem, fold-BodyItem}
use Rattle.classic_tree.specs.declared.tree.BodyItem.TheOpen.{BodyItem-F, NodeText-F, Statement-F, ProtoText-F}
use Rattle.classic_tree.specs.declared.tree.BodyItem.TheVariants as item
use Rattle.classic_tree.specs.declared.tree.Document.{Document}
use Rattle.classic_tree.specs.declared.tree.NodeText.{NodeText, fold-NodeText}
use Rattle.classic_tree.specs.declared.tree.NodeText.TheVariants as node
use Rattle.classic_tree.specs.declared.tree.Statement.{Statement, fold-Statement}
use Rattle.classic_tree.specs.declared.tree.Statement.TheVariants as statement
use Rattle.proto_flat.specs.declared.flat.Flat.{Flat}
use Rattle.proto_meaning.specs.Flat.{flat}
use Rattle.laws_documents.specs.PlainLaws.{HasNoInstances}

abbrev pub Items : Type 0
Items = List BodyItem

abbrev pub Statements : Type 0
Statements = List Statement

abbrev pub these : Items → Items
these items = items

-- an item, or nothing for a PROTO
unfoldable pub item_step : BodyItem-F Items NodeText Statements (Unit {0}) → Items
item_step (BodyItem-F.Field line name g) = item.Field line name g ∷ []
item_step (BodyItem-F.Declaration d) = item.Declaration d ∷ []
item_step (BodyItem-F.BodyItem::Route route) = item.Route route ∷ []
item_step (BodyItem-F.BodyItem::Proto p) = []

unfoldable pub node_step : NodeText-F Items NodeText Statements (Unit {0}) → NodeText
node_step (NodeText-F.Use line name) = node.Use line name
node_step (NodeText-F.Full line name word items) =
    node.Full line name word (flat_map these items)

unfoldable pub statement_step : Statement-F Items NodeText Statements (Unit {0}) → Statements
statement_step (Statement-F.Node n) = statement.Node n ∷ []
statement_step (Statement-F.Statement::Route route) = statement.Route route ∷ []
statement_step (Statement-F.Statement::Proto p) = []

unfoldable pub proto_step : ProtoText-F Items NodeText Statements (Unit {0}) → Unit {0}
proto_step p = tt

abbrev pub left_items : BodyItem → Items
left_items =
    fold-BodyItem Items NodeText Statements (Unit {0}) item_step node_step statement_step proto_step

abbrev pub left_node : NodeText → NodeText
left_node =
    fold-NodeText Items NodeText Statements (Unit {0}) item_step node_step statement_step proto_step

abbrev pub left_statements : Statement → Statements
left_statements =
    fold-Statement Items NodeText Statements (Unit {0}) item_step node_step statement_step
    proto_step

abbrev pub without_protos : Document → Document
without_protos d = record d { statements = flat_map left_statements d.statements }

-- prototypes that no braces name add nothing: without them the flat form is the same
abbrev pub DeclarationsPutNothingIn : Type 0
DeclarationsPutNothingIn =
    (d : Document) (f : Flat) → HasNoInstances d → flat d ≡ Ok f → flat (without_protos d) ≡ Ok f
