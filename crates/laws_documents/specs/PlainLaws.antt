-- Laws about the flat form of a document, for a reader who doesn't want to follow the walk. The
-- flat form of a document without instances is read from its text.
use Rattle.std.specs.Prelude.{◌≡◌, ◌≤◌, List, [], ◌∷◌, ◌++◌, length, map, None, Ok}
use Rattle.std.specs.List.{AllByRecursion}
use Rattle.x3d_values.specs.Ranges.{max_nodes, max_routes}
use Rattle.classic_tree.specs.declared.tree.Document.{Document}
use Rattle.proto_flat.specs.declared.flat.Flat.{Flat}
use Rattle.proto_flat.specs.declared.flat.FlatNode.{FlatNode}
use Rattle.proto_meaning.specs.Names.{Field}
use Rattle.proto_meaning.specs.Flat.{fields_of, flat, header_of, numbered_from}
use Rattle.laws_documents.specs.Lines.{AreAlike, unlined}
use Rattle.laws_documents.specs.Order.{IsOrdered}
use Rattle.laws_documents.specs.Closings.{IsOfNode, closings, expected, shown}
use Rattle.laws_documents.specs.Uses.{held, some, read}
use Rattle.laws_documents.specs.Routes.{route_shown, routes_read}
use Rattle.laws_documents.specs.Fields.{node_read}
use Rattle.laws_documents.specs.Fields as fields
use Rattle.laws_documents.specs.Shapes.{node_shape, shapes}
use Rattle.laws_documents.specs.Plain.{plain}
use Rattle.laws_documents.specs.Written.{IsWritten, written}

-- each pair of braces outside declarations is that of a node type
abbrev pub HasNoInstances : Document → Type 0
HasNoInstances d = AllByRecursion IsOfNode (closings d)

-- then the flat form, if there is one, is that of a plain reading that passes over each PROTO
abbrev pub DocumentsAreReadPlainly : Type 0
DocumentsAreReadPlainly =
    (d : Document) (f : Flat) → HasNoInstances d → flat d ≡ Ok f → plain d ≡ Ok f

-- it has the node of each pair of braces, in the order in which these close
abbrev pub NodesClose : Type 0
NodesClose =
    (d : Document) (f : Flat) → HasNoInstances d → flat d ≡ Ok f
    → map shown f.nodes ≡ map expected (closings d)

-- the nodes that are read are in it, where the text has them: between braces, where each USE is the
-- node that it names, and as roots
abbrev pub UsesAreNamed : Type 0
UsesAreNamed =
    (d : Document) (f : Flat) → HasNoInstances d → flat d ≡ Ok f
    → (map held f.nodes ≡ (read d).closed) × (map some f.roots ≡ (read d).here)

-- it has the routes that are read
abbrev pub RoutesAreRead : Type 0
RoutesAreRead =
    (d : Document) (f : Flat) → HasNoInstances d → flat d ≡ Ok f
    → map route_shown f.routes ≡ routes_read d

-- its n-th node has the fields between the n-th braces that close, in the order of the text, each
-- with its number and its value, and declares the fields that are declared there
abbrev pub FieldsAreRead : Type 0
FieldsAreRead =
    (d : Document) (f : Flat) → HasNoInstances d → flat d ≡ Ok f
    → map node_read f.nodes ≡ (fields.read d).closed

-- it has the fields and values in the tree, except for the nodes in them
abbrev pub ShapesStay : Type 0
ShapesStay =
    (d : Document) (f : Flat) → HasNoInstances d → flat d ≡ Ok f → map node_shape f.nodes ≡ shapes d

-- it has no helpers, which only instances have
abbrev pub HelpersAreOfInstances : Type 0
HelpersAreOfInstances =
    (d : Document) (f : Flat) → HasNoInstances d → flat d ≡ Ok f → f.helpers ≡ []

-- ---- of all documents, also with instances

-- the header is that of the document
abbrev pub HeadersStay : Type 0
HeadersStay = (d : Document) (f : Flat) → flat d ≡ Ok f → f.header ≡ header_of d

-- what it names exists in it, and what a node holds has a lower number
abbrev pub FlatsAreOrdered : Type 0
FlatsAreOrdered = (d : Document) (f : Flat) → flat d ≡ Ok f → IsOrdered f

-- for documents that differ only in lines: equal except for lines, or faults of one kind
abbrev pub LinesAreForFaults : Type 0
LinesAreForFaults = (d e : Document) → unlined d ≡ unlined e → AreAlike (flat d) (flat e)

-- each node has the name of a DEF of the text, or none; declares fields that are declared there, if
-- it is a Script; and holds values that are there
abbrev pub FlatsAreWritten : Type 0
FlatsAreWritten =
    (d : Document) (f : Flat) → flat d ≡ Ok f → AllByRecursion (IsWritten (written d)) f.nodes

-- no more than 65,536 nodes and routes
abbrev pub FlatsAreLimited : Type 0
FlatsAreLimited =
    (d : Document) (f : Flat) → flat d ≡ Ok f
    → (length f.nodes ≤ max_nodes) × (length f.routes ≤ max_routes)

-- no field has the name of a field before it, or of one of `fields`
abbrev pub AreApart : List Field → List Field → Type 0
AreApart fields [] = Unit {0}
AreApart fields (d ∷ ds) =
    (numbered_from 0 d.name fields ≡ None) × AreApart (fields ++ d ∷ []) ds

abbrev pub HasNamesApart : FlatNode → Type 0
HasNamesApart node = AreApart (fields_of node.node_type) node.interface

-- no two fields of a node, of its type and declared, have the same name
abbrev pub NamesAreApart : Type 0
NamesAreApart =
    (d : Document) (f : Flat) → flat d ≡ Ok f → AllByRecursion HasNamesApart f.nodes
