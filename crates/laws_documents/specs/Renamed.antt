-- Renaming prototypes changes nothing (ISO/IEC 19775-1, 4.4.4).
use Rattle.std.specs.Prelude.{◌≡◌, map}
use Rattle.x3d_values.specs.Names.{node_type_named}
use Rattle.classic_tree.specs.declared.tree.BodyItem.{BodyItem, fold-BodyItem}
use Rattle.classic_tree.specs.declared.tree.BodyItem.TheOpen.{BodyItem-F, NodeText-F, Statement-F, ProtoText-F}
use Rattle.classic_tree.specs.declared.tree.BodyItem.TheVariants as item
use Rattle.classic_tree.specs.declared.tree.Document.{Document}
use Rattle.classic_tree.specs.declared.tree.NodeText.{NodeText, fold-NodeText}
use Rattle.classic_tree.specs.declared.tree.NodeText.TheVariants as node
use Rattle.classic_tree.specs.declared.tree.ProtoText.{ProtoText, fold-ProtoText, roll-ProtoText}
use Rattle.classic_tree.specs.declared.tree.Statement.{Statement, fold-Statement}
use Rattle.classic_tree.specs.declared.tree.Statement.TheVariants as statement
use Rattle.proto_meaning.specs.Names.{Name}
use Rattle.proto_meaning.specs.Flat.{flat}

-- one-to-one; and a name that names a node type, or none, still does
pub record IsRenaming (rename : Name → Name) : Type 0 where
  pub apart : (a b : Name) → rename a ≡ rename b → a ≡ b
  pub types : (a : Name) → node_type_named (rename a) ≡ node_type_named a

-- ---- a text with other names of prototypes, at declarations and before braces

unfoldable pub item_step : (Name → Name) → BodyItem-F BodyItem NodeText Statement ProtoText
    → BodyItem
item_step rename (BodyItem-F.Field line name g) = item.Field line name g
item_step rename (BodyItem-F.Declaration d) = item.Declaration d
item_step rename (BodyItem-F.BodyItem::Route route) = item.Route route
item_step rename (BodyItem-F.BodyItem::Proto p) = item.Proto p

unfoldable pub node_step : (Name → Name) → NodeText-F BodyItem NodeText Statement ProtoText
    → NodeText
node_step rename (NodeText-F.Use line name) = node.Use line name
node_step rename (NodeText-F.Full line name word items) =
    node.Full line name (rename word) items

unfoldable pub statement_step : (Name → Name) → Statement-F BodyItem NodeText Statement ProtoText
    → Statement
statement_step rename (Statement-F.Node n) = statement.Node n
statement_step rename (Statement-F.Statement::Route route) = statement.Route route
statement_step rename (Statement-F.Statement::Proto p) = statement.Proto p

unfoldable pub proto_step : (Name → Name) → ProtoText-F BodyItem NodeText Statement ProtoText
    → ProtoText
proto_step rename p = roll-ProtoText (record p { name = rename p.name })

abbrev pub renamed_item : (Name → Name) → BodyItem → BodyItem
renamed_item rename =
    fold-BodyItem BodyItem NodeText Statement ProtoText (item_step rename) (node_step rename)
    (statement_step rename) (proto_step rename)

abbrev pub renamed_node : (Name → Name) → NodeText → NodeText
renamed_node rename =
    fold-NodeText BodyItem NodeText Statement ProtoText (item_step rename) (node_step rename)
    (statement_step rename) (proto_step rename)

abbrev pub renamed_statement : (Name → Name) → Statement → Statement
renamed_statement rename =
    fold-Statement BodyItem NodeText Statement ProtoText (item_step rename) (node_step rename)
    (statement_step rename) (proto_step rename)

abbrev pub renamed_proto : (Name → Name) → ProtoText → ProtoText
renamed_proto rename =
    fold-ProtoText BodyItem NodeText Statement ProtoText (item_step rename) (node_step rename)
    (statement_step rename) (proto_step rename)

abbrev pub renamed : (Name → Name) → Document → Document
renamed rename d = record d { statements = map (renamed_statement rename) d.statements }

-- ---- the law

-- the flat form is the same, or the fault and its line
abbrev pub NamesOfPrototypesDontMatter : Type 0
NamesOfPrototypesDontMatter =
    (rename : Name → Name) → IsRenaming rename → (d : Document) → flat (renamed rename d) ≡ flat d
