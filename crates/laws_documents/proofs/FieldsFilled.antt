-- A shape with the nodes that stand in it is the value again.
use Rattle.std.proofs.Common.{◌≡◌, ℕ, List, [], ◌∷◌, ◌++◌, map, Option, Some, None, refl, ap, sym, ◌∙◌}
use Rattle.std.specs.List.{flat_map}
use Rattle.classic_tree.specs.declared.tree.RawValue.{RawValue}
use Rattle.classic_tree.specs.declared.tree.RawValue.TheVariants as value
use Rattle.proto_flat.specs.declared.flat.FlatField.{FlatField}
use Rattle.proto_flat.specs.declared.flat.FlatNode.{FlatNode}
use Rattle.laws_documents.specs.Order.{nodes_in}
use Rattle.laws_documents.specs.Uses.{held, some}
use Rattle.laws_documents.specs.Shapes.{FieldShape, NodeShape, blank, field_shape, no_node, node_shape}

abbrev Blanks : Type 0
Blanks = List (Unit {0})

-- as many as these, and the rest
abbrev first_of : Blanks → List ℕ → List ℕ
first_of [] ns = []
first_of (u ∷ us) [] = []
first_of (u ∷ us) (n ∷ ns) = n ∷ first_of us ns

abbrev behind : Blanks → List ℕ → List ℕ
behind [] ns = ns
behind (u ∷ us) [] = []
behind (u ∷ us) (n ∷ ns) = behind us ns

first_again : (ns rest : List ℕ) → first_of (map no_node ns) (ns ++ rest) ≡ ns
first_again [] rest = refl
first_again (n ∷ ns) rest = ap (λ (ms : List ℕ). n ∷ ms) (first_again ns rest)

rest_again : (ns rest : List ℕ) → behind (map no_node ns) (ns ++ rest) ≡ rest
rest_again [] rest = refl
rest_again (n ∷ ns) rest = rest_again ns rest

abbrev one_of : List ℕ → RawValue ℕ
one_of [] = value.EmptyList
one_of (n ∷ ns) = value.Node n

abbrev filled : RawValue (Unit {0}) → List ℕ → RawValue ℕ
filled value.Null ns = value.Null
filled (value.Truth truth) ns = value.Truth truth
filled (value.String text) ns = value.String text
filled (value.Numbers numbers) ns = value.Numbers numbers
filled (value.Node u) ns = one_of ns
filled value.EmptyList ns = value.EmptyList
filled (value.TruthList truths) ns = value.TruthList truths
filled (value.StringList texts) ns = value.StringList texts
filled (value.NumberList numbers) ns = value.NumberList numbers
filled (value.NodeList us) ns = value.NodeList (first_of us ns)

abbrev left : RawValue (Unit {0}) → List ℕ → List ℕ
left value.Null ns = ns
left (value.Truth truth) ns = ns
left (value.String text) ns = ns
left (value.Numbers numbers) ns = ns
left (value.Node u) ns = behind (u ∷ []) ns
left value.EmptyList ns = ns
left (value.TruthList truths) ns = ns
left (value.StringList texts) ns = ns
left (value.NumberList numbers) ns = ns
left (value.NodeList us) ns = behind us ns

filled_again : (v : RawValue ℕ) (rest : List ℕ) → (filled (blank v) (nodes_in v ++ rest) ≡ v) × (left (blank v) (nodes_in v ++ rest) ≡ rest)
filled_again value.Null rest = (refl, refl)
filled_again (value.Truth truth) rest = (refl, refl)
filled_again (value.String text) rest = (refl, refl)
filled_again (value.Numbers numbers) rest = (refl, refl)
filled_again (value.Node n) rest = (refl, refl)
filled_again value.EmptyList rest = (refl, refl)
filled_again (value.TruthList truths) rest = (refl, refl)
filled_again (value.StringList texts) rest = (refl, refl)
filled_again (value.NumberList numbers) rest = (refl, refl)
filled_again (value.NodeList ns) rest = (ap (λ (ms : List ℕ). value.NodeList ms) (first_again ns rest), rest_again ns rest)

abbrev number : Option ℕ → ℕ
number None = 0
number (Some n) = n

abbrev all_filled : List FieldShape → List ℕ → List FlatField
all_filled [] ns = []
all_filled (s ∷ ss) ns = record { line = s.line; number = number s.number; value = filled s.value ns } ∷ all_filled ss (left s.value ns)

abbrev nodes_of : List FlatField → List ℕ
nodes_of fields = flat_map (λ (f : FlatField). nodes_in f.value) fields

all_again : (fields : List FlatField) → all_filled (map field_shape fields) (nodes_of fields) ≡ fields
all_again [] = refl
all_again (f ∷ fields) =
    let again = filled_again f.value (nodes_of fields) in
    ap (λ (v : RawValue ℕ). record { line = f.line; number = f.number; value = v } ∷ all_filled (map field_shape fields) (left (blank f.value) (nodes_in f.value ++ nodes_of fields))) again.0
    ∙ ap (λ ns. f ∷ all_filled (map field_shape fields) ns) again.1
    ∙ ap (λ (fs : List FlatField). f ∷ fs) (all_again fields)

numbers_again : (ns : List ℕ) → map number (map some ns) ≡ ns
numbers_again [] = refl
numbers_again (n ∷ ns) = ap (λ (ms : List ℕ). n ∷ ms) (numbers_again ns)

pub nodes_tell_the_rest : (m n : FlatNode) → node_shape m ≡ node_shape n → held m ≡ held n → m.fields ≡ n.fields
nodes_tell_the_rest m n e k =
    let same_nodes = sym (numbers_again (nodes_of m.fields)) ∙ ap (map number) k ∙ numbers_again (nodes_of n.fields) in
    sym (all_again m.fields)
    ∙ ap (λ ns. all_filled (map field_shape m.fields) ns) same_nodes
    ∙ ap (λ (s : NodeShape). all_filled s.fields (nodes_of n.fields)) e
    ∙ all_again n.fields
