-- DEF names may be others (ISO/IEC 19775-1, 4.4.3, DEF and USE; 4.4.7, run-time name scope): the
-- text and the body of each prototype are scopes of their own. If the names of each scope are
-- renamed one-to-one, at DEF, USE and ROUTE, nothing changes but the names of nodes.
use Rattle.std.specs.Prelude.{◌≡◌, map, None, option_map, Result, Ok, Err}
use Rattle.classic_tree.specs.declared.tree.BodyItem.{BodyItem, fold-BodyItem}
use Rattle.classic_tree.specs.declared.tree.BodyItem.TheOpen.{BodyItem-F, NodeText-F, Statement-F, ProtoText-F}
use Rattle.classic_tree.specs.declared.tree.BodyItem.TheVariants as item
use Rattle.classic_tree.specs.declared.tree.Declaration.{Declaration}
use Rattle.classic_tree.specs.declared.tree.Document.{Document}
use Rattle.classic_tree.specs.declared.tree.Given.{Given}
use Rattle.classic_tree.specs.declared.tree.Given.TheVariants as given
use Rattle.classic_tree.specs.declared.tree.NodeText.{NodeText, fold-NodeText}
use Rattle.classic_tree.specs.declared.tree.NodeText.TheVariants as node
use Rattle.classic_tree.specs.declared.tree.ProtoText.{ProtoText, fold-ProtoText, roll-ProtoText}
use Rattle.classic_tree.specs.declared.tree.RawValue.{RawValue}
use Rattle.classic_tree.specs.declared.tree.RawValue.TheVariants as value
use Rattle.classic_tree.specs.declared.tree.RouteEnd.{RouteEnd}
use Rattle.classic_tree.specs.declared.tree.RouteText.{RouteText}
use Rattle.classic_tree.specs.declared.tree.Statement.{Statement, fold-Statement}
use Rattle.classic_tree.specs.declared.tree.Statement.TheVariants as statement
use Rattle.proto_flat.specs.declared.fault.ExpandFault.{ExpandFault}
use Rattle.proto_flat.specs.declared.flat.Flat.{Flat}
use Rattle.proto_flat.specs.declared.flat.FlatNode.{FlatNode}
use Rattle.proto_meaning.specs.Names.{Name}
use Rattle.proto_meaning.specs.Flat.{flat}

-- ---- a text with other DEF names

-- a part of a text, by how the names of its scope are renamed
abbrev pub InScope : Type 0 → Type 0
InScope A = (Name → Name) → A

-- values and routes belong to the scope around them
abbrev pub value_in : (Name → Name) → RawValue (InScope NodeText) → RawValue NodeText
value_in r value.Null = value.Null
value_in r (value.Truth truth) = value.Truth truth
value_in r (value.String text) = value.String text
value_in r (value.Numbers numbers) = value.Numbers numbers
value_in r (value.Node n) = value.Node (n r)
value_in r value.EmptyList = value.EmptyList
value_in r (value.TruthList truths) = value.TruthList truths
value_in r (value.StringList texts) = value.StringList texts
value_in r (value.NumberList numbers) = value.NumberList numbers
value_in r (value.NodeList ns) = value.NodeList (map (λ (n : InScope NodeText). n r) ns)

abbrev pub given_in : (Name → Name) → Given (InScope NodeText) → Given NodeText
given_in r given.Nothing = given.Nothing
given_in r (given.Value v) = given.Value (value_in r v)
given_in r (given.Is name) = given.Is name

abbrev pub declaration_in : (Name → Name) → Declaration (InScope NodeText) → Declaration NodeText
declaration_in r d =
    record {
      line = d.line;
      access = d.access;
      field_type = d.field_type;
      name = d.name;
      given = given_in r d.given;
    }

abbrev pub end_in : (Name → Name) → RouteEnd → RouteEnd
end_in r e = record e { node = r e.node }

abbrev pub route_in : (Name → Name) → RouteText → RouteText
route_in r route =
    record route { source = end_in r route.source; target = end_in r route.target }

unfoldable pub item_step
    : BodyItem-F (InScope BodyItem) (InScope NodeText) (InScope Statement) (InScope ProtoText)
    → InScope BodyItem
item_step (BodyItem-F.Field line name g) r = item.Field line name (given_in r g)
item_step (BodyItem-F.Declaration d) r = item.Declaration (declaration_in r d)
item_step (BodyItem-F.BodyItem::Route route) r = item.Route (route_in r route)
item_step (BodyItem-F.BodyItem::Proto p) r = item.Proto (p r)

unfoldable pub node_step
    : NodeText-F (InScope BodyItem) (InScope NodeText) (InScope Statement) (InScope ProtoText)
    → InScope NodeText
node_step (NodeText-F.Use line name) r = node.Use line (r name)
node_step (NodeText-F.Full line name word items) r =
    node.Full line (option_map r name) word (map (λ (i : InScope BodyItem). i r) items)

unfoldable pub statement_step
    : Statement-F (InScope BodyItem) (InScope NodeText) (InScope Statement) (InScope ProtoText)
    → InScope Statement
statement_step (Statement-F.Node n) r = statement.Node (n r)
statement_step (Statement-F.Statement::Route route) r = statement.Route (route_in r route)
statement_step (Statement-F.Statement::Proto p) r = statement.Proto (p r)

-- the body and the default values are a scope, which `rename` renames by the prototype's name
unfoldable pub proto_step : (Name → Name → Name)
    → ProtoText-F (InScope BodyItem) (InScope NodeText) (InScope Statement) (InScope ProtoText)
    → InScope ProtoText
proto_step rename p r =
    roll-ProtoText (record {
      line = p.line;
      name = p.name;
      interface = map (declaration_in (rename p.name)) p.interface;
      body = map (λ (s : InScope Statement). s (rename p.name)) p.body;
    })

abbrev pub renamed_item : (Name → Name → Name) → BodyItem → InScope BodyItem
renamed_item rename =
    fold-BodyItem (InScope BodyItem) (InScope NodeText) (InScope Statement) (InScope ProtoText)
    item_step node_step statement_step (proto_step rename)

abbrev pub renamed_node : (Name → Name → Name) → NodeText → InScope NodeText
renamed_node rename =
    fold-NodeText (InScope BodyItem) (InScope NodeText) (InScope Statement) (InScope ProtoText)
    item_step node_step statement_step (proto_step rename)

abbrev pub renamed_statement : (Name → Name → Name) → Statement → InScope Statement
renamed_statement rename =
    fold-Statement (InScope BodyItem) (InScope NodeText) (InScope Statement) (InScope ProtoText)
    item_step node_step statement_step (proto_step rename)

abbrev pub renamed_proto : (Name → Name → Name) → ProtoText → InScope ProtoText
renamed_proto rename =
    fold-ProtoText (InScope BodyItem) (InScope NodeText) (InScope Statement) (InScope ProtoText)
    item_step node_step statement_step (proto_step rename)

-- the text outside of bodies is renamed by `own`
abbrev pub renamed : (Name → Name → Name) → (own : Name → Name) → Document → Document
renamed rename own d =
    record d {
      statements = map (λ (s : Statement). renamed_statement rename s own) d.statements;
    }

-- ---- the law

abbrev pub IsOneToOne : (Name → Name) → Type 0
IsOneToOne r = (a b : Name) → r a ≡ r b → a ≡ b

abbrev pub nameless : FlatNode → FlatNode
nameless n = record n { name = None }

abbrev pub nameless_flat : Flat → Flat
nameless_flat f = record f { nodes = map nameless f.nodes }

-- equal but for the names of nodes, or the same fault on the same line
abbrev pub AreNamedAlike : Result Flat ExpandFault → Result Flat ExpandFault → Type 0
AreNamedAlike (Ok f) (Ok g) = nameless_flat g ≡ nameless_flat f
AreNamedAlike (Err a) (Err b) = b ≡ a
AreNamedAlike (Ok f) (Err b) = ⊥
AreNamedAlike (Err a) (Ok g) = ⊥

abbrev pub DefNamesDontMatter : Type 0
DefNamesDontMatter =
    (rename : Name → Name → Name) (own : Name → Name)
    → ((proto : Name) → IsOneToOne (rename proto)) → IsOneToOne own
    → (d : Document) → AreNamedAlike (flat d) (flat (renamed rename own d))
