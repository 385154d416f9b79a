-- The values of a scene are short where those of its document are.
use Rattle.std.proofs.Common.{◌≡◌, ℕ, zero, suc, ◌+◌, ◌==◌, Bool, true, false, not, if◌then◌else◌, List, [], ◌∷◌, ◌++◌, length, map, codes, nat_eq, Option, Some, None, Result, Ok, Err, slice_get, subst}
use Rattle.std.specs.List.{AllByRecursion, find}
use Rattle.std.specs.Cmp.Lexicographic.{pointwise}
use Rattle.x3d_values.specs.Access.{is_initial}
use Rattle.x3d_values.specs.Tables.{FieldRowView, rows}
use Rattle.x3d_values.specs.declared.field_type.Access.{Access}
use Rattle.x3d_values.specs.declared.field_type.FieldType.{FieldType}
use Rattle.x3d_values.specs.declared.node_type.NodeKind.{NodeKind}
use Rattle.x3d_values.specs.declared.value.Value.{Value}
use Rattle.classic_lex.specs.Header.{max_len}
use Rattle.classic_tree.specs.declared.tree.Declaration.{Declaration}
use Rattle.classic_tree.specs.declared.tree.Document.{Document}
use Rattle.classic_text.specs.Reading.{read_text}
use Rattle.proto_flat.specs.declared.flat.Flat.{Flat}
use Rattle.proto_flat.specs.declared.flat.FlatField.{FlatField}
use Rattle.proto_flat.specs.declared.flat.FlatNode.{FlatNode}
use Rattle.proto_meaning.specs.Flat.{flat}
use Rattle.scene_core.specs.Building.{called, limits, node_of, nodes_by, nodes_of, scene_by, scene_of, with_node}
use Rattle.scene_core.specs.Faults.{fault, through, ◌>>=◌}
use Rattle.scene_core.specs.Labels.{is_alone, is_label, label_by, names_of}
use Rattle.scene_core.specs.Numbers.{numbering}
use Rattle.scene_core.specs.Parts.{given, inner_nodes}
use Rattle.scene_core.specs.Scene.{SceneView}
use Rattle.scene_core.specs.Shape.{declaration_entry, declared_by, is_rotation, numbered_fields}
use Rattle.scene_core.specs.Typed.{accepted, accepted_in_range, all_children, all_taken, at_line, declared_empty, declared_from, declared_given, declared_value, default_of, dropped_rotation, field_value, given_value, in_range, no_rotation, typed_value, values_from, values_of}
use Rattle.scene_core.specs.declared.fault.SceneFault.{SceneFault}
use Rattle.scene_core.specs.declared.fault.SceneFaultKind.TheVariants.{BadChild, NotInitial, RotationUnsupported, ValueRange}
use Rattle.scene_core.specs.declared.numbering.Numbering.{Numbering}
use Rattle.scene_core.specs.declared.scene.SceneNode.{SceneNode}
use Rattle.scene_values.specs.Rotations.{checked_rotation}
use Rattle.scene_values.specs.Typing.{typed}
use Rattle.scene_values.specs.declared.fault.ValueFault.{ValueFault}
use Rattle.laws_documents.specs.Lengths.{IsShortField, IsShortFlat, IsShortNode}
use Rattle.laws_worlds.specs.Scenes.{IsShortIfAny, IsShortScene, IsShortSceneNode, IsShortValue}
use Rattle.laws_documents.proofs.SpelledFlats.{flats_within_limit}
use Rattle.laws_worlds.proofs.Values.{IfValue, default_or_none, typed_short}
use Rattle.laws_documents.proofs.Lists.{all_append}

-- ---- what holds of an answer

abbrev IfSo : {A : Type 0} → (A → Type 0) → Result A SceneFault → Type 0
IfSo P (Ok a) = P a
IfSo P (Err e) = Unit {0}

then_so : {A B : Type 0} (P : A → Type 0) (Q : B → Type 0) (r : Result A SceneFault) (f : A → Result B SceneFault) → IfSo P r → ((a : A) → P a → IfSo Q (f a)) → IfSo Q (r >>= f)
then_so P Q (Ok a) f h k = k a h
then_so P Q (Err e) f h k = tt

anyway : {A : Type 0} (r : Result A SceneFault) → IfSo (λ (a : A). Unit {0}) r
anyway (Ok a) = tt
anyway (Err e) = tt

either : {A : Type 0} (P : A → Type 0) (b : Bool) (r q : Result A SceneFault) → IfSo P r → IfSo P q → IfSo P (if b then r else q)
either P true r q h k = h
either P false r q h k = k

in_line : {A : Type 0} (P : A → Type 0) (line : ℕ) (r : Result A ValueFault) → IfValue P r → IfSo P (at_line line r)
in_line P line (Ok a) h = h
in_line P line (Err e) h = tt

through_so : {A X : Type 0} (P : X → Type 0) (step : A → X → Result X SceneFault) → ((a : A) (x : X) → P x → IfSo P (step a x)) → (items : List A) (x : X) → P x → IfSo P (through step items x)
through_so P step k [] x h = h
through_so P step k (a ∷ items) x h = then_so P P (step a x) (λ more. through step items more) (k a x h) (λ y i. through_so P step k items y i)

abbrev IfAny : {A : Type 0} → (A → Type 0) → Option A → Type 0
IfAny P None = Unit {0}
IfAny P (Some a) = P a

got : {A : Type 0} (P : A → Type 0) (xs : List A) (n : ℕ) → AllByRecursion P xs → IfAny P (slice_get xs n)
got P [] n h = tt
got P (x ∷ xs) zero h = h.0
got P (x ∷ xs) (suc n) h = got P xs n h.1

or_next : {A : Type 0} (P : A → Type 0) (b : Bool) (x : A) (o : Option A) → P x → IfAny P o → IfAny P (if b then Some x else o)
or_next P true x o h k = h
or_next P false x o h k = k

found : {A : Type 0} (P : A → Type 0) (test : A → Bool) (xs : List A) → AllByRecursion P xs → IfAny P (find test xs)
found P test [] h = tt
found P test (x ∷ xs) h = or_next P (test x) x (find test xs) h.0 (found P test xs h.1)

-- ---- the value of a field

abbrev ShortField : FlatField → Type 0
ShortField f = IsShortField max_len f

abbrev Short : Option Value → Type 0
Short v = IsShortIfAny max_len v

abbrev AllShort : List (Option Value) → Type 0
AllShort vs = AllByRecursion Short vs

given_short : (fields : List FlatField) (number : ℕ) → AllByRecursion ShortField fields → IfAny ShortField (given fields number)
given_short fields number h = found ShortField (λ (f : FlatField). f.number == number) fields h

typed_so : (numbers : List ℕ) (t : FieldType) (f : FlatField) → ShortField f → IfSo (IsShortValue max_len) (typed_value numbers t f)
typed_so numbers t f h = in_line (IsShortValue max_len) f.line (typed t f.value numbers) (typed_short t f.value numbers h)

accepted_so : (nodes : List FlatNode) (a : Access) (kind : Option NodeKind) (f : FlatField) (x : Value) → IsShortValue max_len x → IfSo Short (accepted nodes a kind f x)
accepted_so nodes a kind f x h =
    either Short (not (is_initial a)) (Err (fault NotInitial f.line)) (if all_taken kind nodes (inner_nodes f.value) then Ok (Some x) else Err (fault BadChild f.line)) tt
    (either Short (all_taken kind nodes (inner_nodes f.value)) (Ok (Some x)) (Err (fault BadChild f.line)) h tt)

in_range_so : (nodes : List FlatNode) (e : FieldRowView) (f : FlatField) (x : Value) → IsShortValue max_len x → IfSo Short (accepted_in_range nodes e f x)
in_range_so nodes e f x h =
    either Short (in_range e.name x) (accepted nodes e.access e.kind f x) (Err (fault ValueRange f.line)) (accepted_so nodes e.access e.kind f x h) tt

dropped_so : (e : FieldRowView) (f : FlatField) → IfSo Short (dropped_rotation e f)
dropped_so e f =
    let r : Result (Unit {0}) SceneFault = at_line f.line (checked_rotation f.value (pointwise nat_eq e.name (codes "orientation"))) in
    then_so (λ (u : Unit {0}). Unit {0}) Short r (λ _. Ok None) (anyway r) (λ u t. tt)

given_so : (nodes : List FlatNode) (numbers : List ℕ) (e : FieldRowView) (f : FlatField) → ShortField f → IfSo Short (given_value nodes numbers e f)
given_so nodes numbers e f h =
    either Short (is_rotation e.field_type) (dropped_rotation e f) (typed_value numbers e.field_type f >>= accepted_in_range nodes e f) (dropped_so e f)
    (then_so (IsShortValue max_len) Short (typed_value numbers e.field_type f) (accepted_in_range nodes e f) (typed_so numbers e.field_type f h) (λ x k. in_range_so nodes e f x k))

field_so : (nodes : List FlatNode) (numbers : List ℕ) (e : FieldRowView) (f : Option FlatField) → IfAny ShortField f → IfSo Short (field_value nodes numbers e f)
unfolding field_value
field_so nodes numbers e (Some f) h = given_so nodes numbers e f h
field_so nodes numbers e None h = default_or_none e.field_type e.default

values_so : (nodes : List FlatNode) (numbers : List ℕ) (fields : List FlatField) → AllByRecursion ShortField fields → (n : ℕ) (es : List FieldRowView) (done : List (Option Value)) → AllShort done → IfSo AllShort (values_from nodes numbers fields n es done)
values_so nodes numbers fields h n [] done k = k
values_so nodes numbers fields h n (e ∷ es) done k =
    then_so Short AllShort (field_value nodes numbers e (given fields n)) (λ v. values_from nodes numbers fields (n + 1) es (done ++ v ∷ [])) (field_so nodes numbers e (given fields n) (given_short fields n h))
    (λ v i. values_so nodes numbers fields h (n + 1) es (done ++ v ∷ []) (all_append Short done (v ∷ []) k (i, tt)))

-- ---- of a field that a Script declares

no_rotation_so : (f : FlatField) → IfSo Short (no_rotation f)
no_rotation_so f =
    let r : Result (Unit {0}) SceneFault = at_line f.line (checked_rotation f.value true) in
    then_so (λ (u : Unit {0}). Unit {0}) Short r (λ _. Err (fault RotationUnsupported f.line)) (anyway r) (λ u t. tt)

declared_given_so : (nodes : List FlatNode) (numbers : List ℕ) (d : Declaration ℕ) (f : FlatField) → ShortField f → IfSo Short (declared_given nodes numbers d f)
declared_given_so nodes numbers d f h =
    either Short (is_rotation d.field_type) (no_rotation f) (typed_value numbers d.field_type f >>= accepted nodes d.access None f) (no_rotation_so f)
    (then_so (IsShortValue max_len) Short (typed_value numbers d.field_type f) (accepted nodes d.access None f) (typed_so numbers d.field_type f h) (λ x k. accepted_so nodes d.access None f x k))

declared_empty_so : (d : Declaration ℕ) → IfSo Short (declared_empty d)
declared_empty_so d =
    either Short (is_rotation d.field_type) (Err (fault RotationUnsupported d.line)) (Ok (default_of (declaration_entry d))) tt
    (default_or_none (declaration_entry d).field_type (declaration_entry d).default)

declared_so : (nodes : List FlatNode) (numbers : List ℕ) (d : Declaration ℕ) (f : Option FlatField) → IfAny ShortField f → IfSo Short (declared_value nodes numbers d f)
unfolding declared_value
declared_so nodes numbers d (Some f) h = declared_given_so nodes numbers d f h
declared_so nodes numbers d None h = declared_empty_so d

declared_values_so : (nodes : List FlatNode) (numbers : List ℕ) (fields : List FlatField) → AllByRecursion ShortField fields → (n : ℕ) (ds : List (Declaration ℕ)) (done : List (Option Value)) → AllShort done → IfSo AllShort (declared_from nodes numbers fields n ds done)
declared_values_so nodes numbers fields h n [] done k = k
declared_values_so nodes numbers fields h n (d ∷ ds) done k =
    then_so Short AllShort (declared_value nodes numbers d (given fields n)) (λ v. declared_from nodes numbers fields (n + 1) ds (done ++ v ∷ [])) (declared_so nodes numbers d (given fields n) (given_short fields n h))
    (λ v i. declared_values_so nodes numbers fields h (n + 1) ds (done ++ v ∷ []) (all_append Short done (v ∷ []) k (i, tt)))

-- ---- nodes

all_values_so : (nodes : List FlatNode) (numbers : List ℕ) (node : FlatNode) → IsShortNode max_len node → IfSo AllShort (values_of nodes numbers node)
unfolding values_of
all_values_so nodes numbers node h =
    then_so AllShort AllShort (values_from nodes numbers node.fields 0 (rows node.node_type) [])
    (declared_from nodes numbers node.fields (length (rows node.node_type)) (numbered_fields node.node_type node.interface))
    (values_so nodes numbers node.fields h 0 (rows node.node_type) [] tt)
    (λ vs k. declared_values_so nodes numbers node.fields h (length (rows node.node_type)) (numbered_fields node.node_type node.interface) vs k)

abbrev new_node : (List ℕ → Bool) → FlatNode → List (Option Value) → SceneNode
new_node keeps node values = record {
  node_type = node.node_type;
  label = label_by keeps node.name;
  declared = map declared_by node.interface;
  values = values;
}

node_so : (nodes : List FlatNode) (numbers : List ℕ) (keeps : List ℕ → Bool) (node : FlatNode) → IsShortNode max_len node → IfSo (IsShortSceneNode max_len) (node_of nodes numbers keeps node)
node_so nodes numbers keeps node h =
    then_so AllShort (IsShortSceneNode max_len) (values_of nodes numbers node) (λ values. Ok (new_node keeps node values)) (all_values_so nodes numbers node h) (λ vs k. k)

abbrev AllNodes : List SceneNode → Type 0
AllNodes ns = AllByRecursion (IsShortSceneNode max_len) ns

with_node_so : (nodes : List FlatNode) (numbers : List ℕ) (alone : List ℕ → Bool) (o : Option FlatNode) (done : List SceneNode) → IfAny (IsShortNode max_len) o → AllNodes done → IfSo AllNodes (with_node nodes numbers alone o done)
with_node_so nodes numbers alone None done h k = k
with_node_so nodes numbers alone (Some node) done h k =
    then_so (IsShortSceneNode max_len) AllNodes (node_of nodes numbers (is_label alone (length done)) node) (λ n. Ok (done ++ n ∷ [])) (node_so nodes numbers (is_label alone (length done)) node h)
    (λ n i. all_append (IsShortSceneNode max_len) done (n ∷ []) k (i, tt))

nodes_so : (nodes : List FlatNode) (s : Numbering) (alone : List ℕ → Bool) → AllByRecursion (IsShortNode max_len) nodes → IfSo AllNodes (nodes_by nodes s alone)
unfolding nodes_by
nodes_so nodes s alone h =
    through_so AllNodes (λ n done. with_node nodes s.numbers alone (slice_get nodes n) done)
    (λ n done k. with_node_so nodes s.numbers alone (slice_get nodes n) done (got (IsShortNode max_len) nodes n h) k) s.order [] tt

-- ---- a scene

abbrev viewed : Flat → Numbering → List SceneNode → SceneView
viewed f s nodes = record {
  header = f.header;
  nodes = nodes;
  roots = called s.numbers f.roots;
  helpers = called s.numbers f.helpers;
  opened = s.opened;
  numbers = s.numbers;
}

abbrev limited : Flat → Numbering → List SceneNode → Result SceneView SceneFault
limited f s nodes = limits nodes (called s.numbers f.roots) >>= λ _. Ok (viewed f s nodes)

abbrev with_helpers : Flat → Numbering → List SceneNode → Result SceneView SceneFault
with_helpers f s nodes = all_children f.nodes f.helpers >>= λ _. limited f s nodes

abbrev with_roots : Flat → Numbering → List SceneNode → Result SceneView SceneFault
with_roots f s nodes = all_children f.nodes f.roots >>= λ _. with_helpers f s nodes

scene_so : (f : Flat) (s : Numbering) → IsShortFlat max_len f → IfSo (IsShortScene max_len) (scene_by f s)
scene_so f s h =
    then_so AllNodes (IsShortScene max_len) (nodes_of f.nodes s) (with_roots f s) (nodes_so f.nodes s (is_alone (names_of f.nodes s.order)) h)
    (λ nodes k. then_so (λ (u : Unit {0}). Unit {0}) (IsShortScene max_len) (all_children f.nodes f.roots) (λ _. with_helpers f s nodes) (anyway (all_children f.nodes f.roots))
    (λ u t. then_so (λ (u : Unit {0}). Unit {0}) (IsShortScene max_len) (all_children f.nodes f.helpers) (λ _. limited f s nodes) (anyway (all_children f.nodes f.helpers))
    (λ u t. then_so (λ (u : Unit {0}). Unit {0}) (IsShortScene max_len) (limits nodes (called s.numbers f.roots)) (λ _. Ok (viewed f s nodes)) (anyway (limits nodes (called s.numbers f.roots)))
    (λ u t. k))))

short_scene : (f : Flat) (scene : SceneView) → IsShortFlat max_len f → scene_of f ≡ Ok scene → IsShortScene max_len scene
unfolding scene_of
short_scene f scene h e = subst (λ (r : Result SceneView SceneFault). IfSo (IsShortScene max_len) r) e (scene_so f (numbering f.nodes f.roots f.helpers) h)

pub scenes_short : (text : List ℕ) (d : Document) (f : Flat) (scene : SceneView) → read_text text ≡ Ok d → flat d ≡ Ok f → scene_of f ≡ Ok scene → IsShortScene max_len scene
scenes_short text d f scene r e i = short_scene f scene (flats_within_limit text d f r e) i
