-- Words for the trees of worked documents. A fold over a tree doesn't compute: so each part of such a
-- tree stands beside what it is by the parts inside, with the path from one to the other.
use Rattle.std.proofs.Common.{◌≡◌, ℕ, ◌*◌, List, [], ◌∷◌, Option, Some, None, map, refl, ap}
use Rattle.std.specs.Prelude.{ℤ, pos, codes, Bool}
use Prim.Native.String.{String}
use Rattle.x3d_values.specs.declared.field_type.Access.{Access}
use Rattle.x3d_values.specs.declared.field_type.FieldType.{FieldType}
use Rattle.classic_lex.specs.declared.versions.Version.TheVariants.{V3_0}
use Rattle.classic_tree.specs.declared.tree.BodyItem.{BodyItem}
use Rattle.classic_tree.specs.declared.tree.BodyItem.TheVariants as item
use Rattle.classic_tree.specs.declared.tree.BodyItem.TheOpen.{BodyItem-F, NodeText-F, Statement-F}
use Rattle.classic_tree.specs.declared.tree.Declaration.{Declaration}
use Rattle.classic_tree.specs.declared.tree.Document.{Document}
use Rattle.classic_tree.specs.declared.tree.Given.{Given}
use Rattle.classic_tree.specs.declared.tree.Given.TheVariants as given
use Rattle.classic_tree.specs.declared.tree.NodeText.{NodeText}
use Rattle.classic_tree.specs.declared.tree.NodeText.TheVariants as node
use Rattle.classic_tree.specs.declared.tree.ProtoText.{ProtoText, roll-ProtoText}
use Rattle.classic_tree.specs.declared.tree.RawValue.TheVariants as value
use Rattle.classic_tree.specs.declared.tree.RouteText.{RouteText}
use Rattle.classic_tree.specs.declared.tree.Statement.{Statement}
use Rattle.classic_tree.specs.declared.tree.Statement.TheVariants as statement
use Rattle.classic_tree.proofs.Mapped.{given_mapped, interface_mapped}
use Rattle.proto_meaning.specs.Flat.{Item, Node, Stated, Proto, item_step, node_step, statement_step}
use Rattle.proto_meaning.specs.Flat.{statement as stated}
use Rattle.proto_meaning.specs.Flat.{item as item_part, node as node_part, proto as proto_part}
use Rattle.proto_meaning.proofs.Trees.{proto_of, given-node, given-nodes, nodes-cons, items-cons, stated-cons, declared-cons, item-field, item-declaration, item-route, item-proto, node-use, node-full, statement-node, statement-route, statement-proto, proto-is}

-- ---- a tree, what it is, and that it is this

abbrev pub KnownNode : Type 0
KnownNode = (tree : NodeText) × (part : Node) × (node_part tree ≡ part)

abbrev pub KnownItem : Type 0
KnownItem = (tree : BodyItem) × (part : Item) × (item_part tree ≡ part)

abbrev pub KnownStatement : Type 0
KnownStatement = (tree : Statement) × (part : Stated) × (stated tree ≡ part)

abbrev pub KnownProto : Type 0
KnownProto = (tree : ProtoText) × (part : Proto) × (proto_part tree ≡ part)

abbrev pub KnownGiven : Type 0
KnownGiven = (tree : Given NodeText) × (part : Given Node) × (given_mapped node_part tree ≡ part)

abbrev pub KnownDeclaration : Type 0
KnownDeclaration =
    (tree : Declaration NodeText) × (part : Declaration Node) × (interface_mapped node_part tree ≡ part)

-- ---- the same of lists

abbrev KnownNodes : Type 0
KnownNodes = (trees : List NodeText) × (parts : List Node) × (map node_part trees ≡ parts)

abbrev KnownItems : Type 0
KnownItems = (trees : List BodyItem) × (parts : List Item) × (map item_part trees ≡ parts)

abbrev pub KnownStatements : Type 0
KnownStatements = (trees : List Statement) × (parts : List Stated) × (map stated trees ≡ parts)

abbrev KnownInterface : Type 0
KnownInterface =
    (trees : List (Declaration NodeText)) × (parts : List (Declaration Node))
    × (map (interface_mapped node_part) trees ≡ parts)

abbrev one_node_more : KnownNode → KnownNodes → KnownNodes
one_node_more n ns = (n.0 ∷ ns.0, n.1 ∷ ns.1, nodes-cons n.0 ns.0 n.2 ns.2)

abbrev all_nodes : List KnownNode → KnownNodes
all_nodes [] = ([], [], refl)
all_nodes (n ∷ ns) = one_node_more n (all_nodes ns)

abbrev one_item_more : KnownItem → KnownItems → KnownItems
one_item_more i more = (i.0 ∷ more.0, i.1 ∷ more.1, items-cons i.0 more.0 i.2 more.2)

abbrev all_items : List KnownItem → KnownItems
all_items [] = ([], [], refl)
all_items (i ∷ more) = one_item_more i (all_items more)

abbrev one_statement_more : KnownStatement → KnownStatements → KnownStatements
one_statement_more s ss = (s.0 ∷ ss.0, s.1 ∷ ss.1, stated-cons s.0 ss.0 s.2 ss.2)

abbrev pub all_statements : List KnownStatement → KnownStatements
all_statements [] = ([], [], refl)
all_statements (s ∷ ss) = one_statement_more s (all_statements ss)

abbrev one_declaration_more : KnownDeclaration → KnownInterface → KnownInterface
one_declaration_more d ds = (d.0 ∷ ds.0, d.1 ∷ ds.1, declared-cons d.0 ds.0 d.2 ds.2)

abbrev all_declarations : List KnownDeclaration → KnownInterface
all_declarations [] = ([], [], refl)
all_declarations (d ∷ ds) = one_declaration_more d (all_declarations ds)

-- ---- what a field is given

-- so many whole units
abbrev pub units : List ℕ → List ℤ
units ns = map (λ n. pos (n * 1000000)) ns

abbrev pub nothing : KnownGiven
nothing = (given.Nothing, given.Nothing, refl)

abbrev pub is : String → KnownGiven
is name = (given.Is (codes name), given.Is (codes name), refl)

abbrev pub null : KnownGiven
null = (given.Value value.Null, given.Value value.Null, refl)

abbrev pub truth : Bool → KnownGiven
truth b = (given.Value (value.Truth b), given.Value (value.Truth b), refl)

abbrev pub text : String → KnownGiven
text t = (given.Value (value.String (codes t)), given.Value (value.String (codes t)), refl)

abbrev pub numbers : List ℕ → KnownGiven
numbers ns = (given.Value (value.Numbers (units ns)), given.Value (value.Numbers (units ns)), refl)

abbrev pub a_node : KnownNode → KnownGiven
a_node n = (given.Value (value.Node n.0), given.Value (value.Node n.1), given-node n.0 n.2)

abbrev given_list : KnownNodes → KnownGiven
given_list ns =
    (given.Value (value.NodeList ns.0), given.Value (value.NodeList ns.1), given-nodes ns.0 ns.2)

abbrev pub nodes : List KnownNode → KnownGiven
nodes ns = given_list (all_nodes ns)

-- ---- declarations

abbrev pub declaration : {N : Type 0} → ℕ → Access → FieldType → String → Given N → Declaration N
declaration line access field_type name g =
    record { line = line; access = access; field_type = field_type; name = codes name; given = g }

abbrev pub declares : ℕ → Access → FieldType → String → KnownGiven → KnownDeclaration
declares line access field_type name g = (
  declaration line access field_type name g.0,
  declaration line access field_type name g.1,
  ap (declaration line access field_type name) g.2,
)

-- ---- parts of a tree, each with the line of its first word

abbrev pub field : ℕ → String → KnownGiven → KnownItem
field line name g = (
  item.Field line (codes name) g.0,
  item_step (BodyItem-F.Field line (codes name) g.1),
  item-field line (codes name) g.0 g.2,
)

abbrev pub script_field : KnownDeclaration → KnownItem
script_field d =
    (item.Declaration d.0, item_step (BodyItem-F.Declaration d.1), item-declaration d.0 d.2)

abbrev route_text : ℕ → String → String → String → String → RouteText
route_text line a x b y =
    record {
      line = line;
      source = record { node = codes a; field = codes x };
      target = record { node = codes b; field = codes y };
    }

abbrev item_of_route : RouteText → KnownItem
item_of_route r = (item.Route r, item_step (BodyItem-F.BodyItem::Route r), item-route r)

-- ROUTE a.x TO b.y between the braces of a node
abbrev pub route_inside : ℕ → String → String → String → String → KnownItem
route_inside line a x b y = item_of_route (route_text line a x b y)

-- a PROTO between the braces of a node
abbrev pub proto_inside : KnownProto → KnownItem
proto_inside p = (item.Proto p.0, item_step (BodyItem-F.BodyItem::Proto p.1), item-proto p.0 p.2)

abbrev pub used : ℕ → String → KnownNode
used line name =
    (node.Use line (codes name), node_step (NodeText-F.Use line (codes name)), node-use line (codes name))

abbrev full_of : ℕ → Option (List ℕ) → List ℕ → KnownItems → KnownNode
full_of line name word items = (
  node.Full line name word items.0,
  node_step (NodeText-F.Full line name word items.1),
  node-full line name word items.0 items.2,
)

abbrev pub full : ℕ → String → List KnownItem → KnownNode
full line word items = full_of line None (codes word) (all_items items)

-- the same behind DEF
abbrev pub named : ℕ → String → String → List KnownItem → KnownNode
named line name word items = full_of line (Some (codes name)) (codes word) (all_items items)

abbrev proto_text : ℕ → List ℕ → KnownInterface → KnownStatements → KnownProto
proto_text line name ds ss = (
  roll-ProtoText (record { line = line; name = name; interface = ds.0; body = ss.0 }),
  proto_of line name ds.1 ss.1,
  proto-is line name ds.0 ss.0 ds.2 ss.2,
)

abbrev pub proto : ℕ → String → List KnownDeclaration → List KnownStatement → KnownProto
proto line name interface body =
    proto_text line (codes name) (all_declarations interface) (all_statements body)

abbrev pub a_proto : KnownProto → KnownStatement
a_proto p = (
  statement.Proto p.0,
  statement_step (Statement-F.Statement::Proto p.1),
  statement-proto p.0 p.2,
)

abbrev pub stands : KnownNode → KnownStatement
stands n = (statement.Node n.0, statement_step (Statement-F.Node n.1), statement-node n.0 n.2)

abbrev statement_of_route : RouteText → KnownStatement
statement_of_route r =
    (statement.Route r, statement_step (Statement-F.Statement::Route r), statement-route r)

-- ROUTE a.x TO b.y as a statement
abbrev pub route : ℕ → String → String → String → String → KnownStatement
route line a x b y = statement_of_route (route_text line a x b y)

-- ---- documents

abbrev pub document : KnownStatements → Document
document known =
    record { version = V3_0; profile = None; components = []; metas = []; statements = known.0 }
