-- An instance is its prototype's body, written in its place (ISO/IEC 19775-1, 4.4.4, prototypes).
-- Here the body is several nodes, of which the first stands for the instance. The others, its
-- helpers, are written after it: so such instances are statements.
use Rattle.std.specs.Prelude.{◌≡◌, ◌⊎◌, ℕ, Bool, true, false, if◌then◌else◌, List, [], ◌∷◌, map, Option, Ok}
use Rattle.std.specs.List.{flat_map, list_all}
use Rattle.std.specs.Str.{bytes_eq}
use Rattle.classic_tree.specs.declared.tree.BodyItem.{BodyItem}
use Rattle.classic_tree.specs.declared.tree.BodyItem.TheOpen.{NodeText-F, Statement-F}
use Rattle.classic_tree.specs.declared.tree.Declaration.{Declaration}
use Rattle.classic_tree.specs.declared.tree.Document.{Document}
use Rattle.classic_tree.specs.declared.tree.NodeText.{NodeText, out-NodeText}
use Rattle.classic_tree.specs.declared.tree.ProtoText.{ProtoText, roll-ProtoText}
use Rattle.classic_tree.specs.declared.tree.Statement.{Statement, out-Statement}
use Rattle.classic_tree.specs.declared.tree.Statement.TheVariants as statement
use Rattle.proto_flat.specs.declared.flat.Flat.{Flat}
use Rattle.proto_meaning.specs.Names.{Name}
use Rattle.proto_meaning.specs.Flat.{flat}
use Rattle.laws_documents.specs.WithFields.{is_plain, is_quiet_node, is_quiet_statement, found, as_written, named, finds_nothing, written_node, written_statement}

-- ---- which documents

-- braces after the prototype's name
abbrev pub is_of : Name → NodeText-F BodyItem NodeText Statement ProtoText → Bool
is_of proto (NodeText-F.Use line name) = false
is_of proto (NodeText-F.Full line name word items) = bytes_eq proto word

-- a statement that is an instance
abbrev pub is_instance : Name → Statement-F BodyItem NodeText Statement ProtoText → Bool
is_instance proto (Statement-F.Node n) = is_of proto (out-NodeText n)
is_instance proto _ = false

-- instances are statements, and occur nowhere else
abbrev pub may_be : Name → Statement → Bool
may_be proto s = is_quiet_statement proto (is_instance proto (out-Statement s)) s

-- ---- the body in place of an instance

abbrev pub as_statements : List NodeText → List Statement
as_statements nodes = map (λ n. statement.Node n) nodes

-- the first node gets the instance's name, if it has one
abbrev pub first_named : Option Name → List NodeText → List NodeText
first_named name [] = []
first_named name (n ∷ ns) = named name n ∷ ns

-- all nodes of the body, for an instance of that name with these items
abbrev pub nodes_for : List (Declaration NodeText) → List NodeText → Option Name → List BodyItem
    → List NodeText
nodes_for interface body name items =
    first_named name (map (written_node (found interface items) as_written) body)

-- a statement that is an instance becomes all nodes of the body; any other is unchanged
abbrev pub node_out : Name → List (Declaration NodeText) → List NodeText → Statement
    → NodeText-F BodyItem NodeText Statement ProtoText → List Statement
node_out proto interface body s (NodeText-F.Use line name) = s ∷ []
node_out proto interface body s (NodeText-F.Full line name word items) =
    if bytes_eq proto word then as_statements (nodes_for interface body name items) else s ∷ []

abbrev pub statement_out : Name → List (Declaration NodeText) → List NodeText → Statement
    → Statement-F BodyItem NodeText Statement ProtoText → List Statement
statement_out proto interface body s (Statement-F.Node n) =
    node_out proto interface body s (out-NodeText n)
statement_out proto interface body s _ = s ∷ []

abbrev pub written_statements : Name → List (Declaration NodeText) → List NodeText → Statement
    → List Statement
written_statements proto interface body s =
    statement_out proto interface body (written_statement finds_nothing as_written s)
    (out-Statement s)

-- ---- the law

-- PROTO proto [ interface ] { body }
abbrev pub declaration_of : ℕ → Name → List (Declaration NodeText) → List NodeText → Statement
declaration_of line proto interface body =
    statement.Proto (roll-ProtoText (record {
      line = line;
      name = proto;
      interface = interface;
      body = as_statements body;
    }))

abbrev pub declared : Document → ℕ → Name → List (Declaration NodeText) → List NodeText
    → List Statement → Document
declared d line proto interface body rest =
    record d { statements = declaration_of line proto interface body ∷ rest }

abbrev pub written_out : Document → Name → List (Declaration NodeText) → List NodeText
    → List Statement → Document
written_out d proto interface body rest =
    record d { statements = flat_map (written_statements proto interface body) rest }

-- the items of the third list are those of the first two, each in its order
abbrev pub Shuffled : List ℕ → List ℕ → List ℕ → Type 0
Shuffled xs ys [] = (xs ≡ []) × (ys ≡ [])
Shuffled xs ys (z ∷ zs) =
    ((rest : List ℕ) × (xs ≡ z ∷ rest) × Shuffled rest ys zs)
    ⊎ ((rest : List ℕ) × (ys ≡ z ∷ rest) × Shuffled xs rest zs)

-- equal nodes and routes; the helpers of the first are roots of the second, among its own roots
pub record HelpersAsRoots (f g : Flat) : Type 0 where
  pub header : g.header ≡ f.header
  pub nodes : g.nodes ≡ f.nodes
  pub routes : g.routes ≡ f.routes
  pub roots : Shuffled f.roots f.helpers g.roots
  pub helpers : g.helpers ≡ []

-- a document that begins with the declaration and has no fault stands for the same as the document
-- in which the nodes of the body replace each instance, except that helpers are roots. Default
-- values and what instances give hold no nodes
abbrev pub InstancesAreAllNodesOfTheirBodies : Type 0
InstancesAreAllNodesOfTheirBodies =
    (d : Document) (line : ℕ) (proto : Name) (interface : List (Declaration NodeText))
    (body : List NodeText) (rest : List Statement) (f : Flat)
    → list_all (λ (i : Declaration NodeText). is_plain i.given) interface ≡ true
    → list_all (is_quiet_node proto false) body ≡ true
    → list_all (may_be proto) rest ≡ true
    → flat (declared d line proto interface body rest) ≡ Ok f
    → (g : Flat) × (flat (written_out d proto interface body rest) ≡ Ok g)
    × HelpersAsRoots f g
