-- The opening world of a document's scene fits.
use Rattle.std.proofs.Common.{◌≡◌, ℕ, zero, suc, ◌≤◌, Bool, true, false, List, [], ◌∷◌, ◌++◌, length, map, take, zip, Option, Some, None, Result, Ok, slice_get, refl, sym, ap, subst, ◌∙◌, arith}
use Rattle.std.specs.Prelude.{All, replicate}
use Rattle.std.specs.List.{list_all}
use Rattle.std.proofs.lemmas.List.{length-map, length-replicate}
use Rattle.std.proofs.lemmas.List.Elements.{All-cons, All-nil, All-push, All-head, All-tail, All-replicate}
use Rattle.byte_codec.proofs.Laws.{both, and_true}
use Rattle.x3d_values.specs.declared.node_type.NodeType.{NodeType}
use Rattle.x3d_values.specs.declared.node_type.NodeType.TheVariants.{TimeSensor}
use Rattle.x3d_values.specs.declared.ranges.TheConstants.{MAX_VIEWERS}
use Rattle.x3d_values.specs.declared.value.Value.{Value}
use Rattle.x3d_values.specs.Tables.{FieldRowView, rows}
use Rattle.sensor_plane.specs.declared.pointing.PointingState.{PointingState}
use Rattle.sensor_plane.specs.Pointing.{start_of}
use Rattle.sensor_plane.proofs.Pointings.{starts_fit as states_fit}
use Rattle.classic_tree.specs.declared.tree.Declaration.{Declaration}
use Rattle.proto_flat.specs.declared.flat.Flat.{Flat}
use Rattle.proto_flat.specs.declared.flat.FlatNode.{FlatNode}
use Rattle.scene_core.specs.declared.fault.SceneFault.{SceneFault}
use Rattle.scene_core.specs.declared.numbering.Numbering.{Numbering}
use Rattle.scene_core.specs.declared.scene.SceneNode.{SceneNode}
use Rattle.scene_core.specs.Building.{node_of, with_node, nodes_by, nodes_of, IsLimited, limits, called, scene_by, scene_of}
use Rattle.scene_core.specs.Faults.{through, ◌>>=◌}
use Rattle.scene_core.specs.Labels.{label_by, is_alone, is_label, names_of}
use Rattle.scene_core.specs.Numbers.{numbering}
use Rattle.scene_core.specs.Scene.{SceneView, shape_of, kept, fields_of, state_of}
use Rattle.scene_core.specs.Shape.{declared_by, declared_entry, declaration_entry, most_declared, numbered_fields}
use Rattle.scene_core.specs.Typed.{values_from, declared_from, values_of, all_children}
use Rattle.laws_worlds.specs.Ranges.{values_fit, fields_fit}
use Rattle.laws_worlds.proofs.Pointers.{all_append}
use Rattle.laws_worlds.specs.Fits.{time_fits, nodes_fit}
use Rattle.laws_worlds.specs.Openings.{UntoldWorldsFit, StartsAreStates, is_countable_node}
use Rattle.laws_worlds.proofs.Routes.{ok_is}
use Rattle.laws_worlds.proofs.Kept.{bind_is, AreValues, are_values, AreDeclared, are_declared, all_kept_fit, no_position}
use Rattle.laws_worlds.proofs.Ranged.{all_ranged, ranged_if}
use Rattle.laws_worlds.proofs.Starts.{IsRanged, starts_fit}
use Rattle.x3d_values.specs.Ranges.{max_inputs}

-- ---- a node

-- what it keeps fits, and all that it begins with is in range
abbrev Begins : SceneNode → Type 0
Begins n = (is_countable_node n ≡ true → fields_fit n.node_type (shape_of n).declared (fields_of n) ≡ true) × IsRanged n

abbrev new_node : FlatNode → Option (List ℕ) → List (Option Value) → SceneNode
new_node node label values = record { node_type = node.node_type; label = label; declared = map declared_by node.interface; values = values }

-- what it declares is what its Script declares in the document
entries_are : (m : ℕ) (ds : List (Declaration ℕ)) → map declared_entry (take m (map declared_by ds)) ≡ map declaration_entry (take m ds)
entries_are zero ds = refl
entries_are (suc m) [] = refl
entries_are (suc m) (d ∷ ds) = ap (λ (es : List FieldRowView). declaration_entry d ∷ es) (entries_are m ds)

module _ (nodes : List FlatNode) (numbers : List ℕ) (node : FlatNode) where
  new_fits : (label : Option (List ℕ)) (own more : List (Option Value)) → AreValues nodes numbers node.fields 0 (rows node.node_type) own
      → AreDeclared nodes numbers (numbered_fields node.node_type node.interface) more → is_countable_node (new_node node label (own ++ more)) ≡ true
      → fields_fit node.node_type (shape_of (new_node node label (own ++ more))).declared (fields_of (new_node node label (own ++ more))) ≡ true
  new_fits label own more a d c =
      let fit = all_kept_fit nodes numbers node.fields node.node_type own (numbered_fields node.node_type node.interface) more a d c in
      and_true _ _
      (subst (λ (es : List FieldRowView). values_fit node.node_type 0 (rows node.node_type ++ es) (map (λ p. kept p.0 p.1) (zip (rows node.node_type ++ es) (own ++ more))) ≡ true)
      (sym (entries_are (most_declared node.node_type) node.interface)) fit)
      (no_position node.node_type)

  new_begins : (label : Option (List ℕ)) (own more : List (Option Value)) → AreValues nodes numbers node.fields 0 (rows node.node_type) own
      → AreDeclared nodes numbers (numbered_fields node.node_type node.interface) more → Begins (new_node node label (own ++ more))
  new_begins label own more a d =
      let r = all_ranged nodes numbers node.fields node.node_type (numbered_fields node.node_type node.interface) own more a d in
      (λ c. new_fits label own more a d c, all_append ranged_if own more r.0 r.1)

  node_begins : (keeps : List ℕ → Bool) (n : SceneNode) → node_of nodes numbers keeps node ≡ Ok n → Begins n
  unfolding values_of
  node_begins keeps n h =
      let label : Option (List ℕ) = label_by keeps node.name in
      let declared : List (Declaration ℕ) = numbered_fields node.node_type node.interface in
      let first : ℕ = length (rows node.node_type) in
      let b = bind_is (values_of nodes numbers node) (λ values. Ok (new_node node label values)) n h in
      let c = bind_is (values_from nodes numbers node.fields 0 (rows node.node_type) []) (declared_from nodes numbers node.fields first declared) b.0 b.1 in
      let r = are_values nodes numbers node.fields 0 (rows node.node_type) [] c.0 c.1 in
      let q = are_declared nodes numbers node.fields first declared c.0 b.0 c.2 in
      let own = subst (λ (vs : List (Option Value)). AreValues nodes numbers node.fields 0 (rows node.node_type) vs) r.1 r.2 in
      subst Begins (ok_is (new_node node label b.0) n b.2)
      (subst (λ (vs : List (Option Value)). Begins (new_node node label vs)) q.1 (new_begins label c.0 q.0 own q.2))

-- ---- all nodes

through_keeps : {A X : Type 0} (P : X → Type 0) (step : A → X → Result X SceneFault) → ((a : A) (x y : X) → step a x ≡ Ok y → P x → P y) → (items : List A) (x y : X) → through step items x ≡ Ok y → P x → P y
through_keeps P step k [] x y h p = subst P (ok_is x y h) p
through_keeps P step k (a ∷ items) x y h p =
    let b = bind_is (step a x) (λ more. through step items more) y h in
    through_keeps P step k items b.0 y b.2 (k a x b.0 b.1 p)

with_begins : (nodes : List FlatNode) (numbers : List ℕ) (alone : List ℕ → Bool) (o : Option FlatNode) (x y : List SceneNode) → with_node nodes numbers alone o x ≡ Ok y → All Begins x → All Begins y
with_begins nodes numbers alone None x y h p = subst (All Begins) (ok_is x y h) p
with_begins nodes numbers alone (Some node) x y h p =
    let b = bind_is (node_of nodes numbers (is_label alone (length x)) node) (λ n. Ok (x ++ n ∷ [])) y h in
    subst (All Begins) (ok_is (x ++ b.0 ∷ []) y b.2) (All-push Begins x b.0 p (node_begins nodes numbers node (is_label alone (length x)) b.0 b.1))

nodes_begin : (nodes : List FlatNode) (s : Numbering) (alone : List ℕ → Bool) (all : List SceneNode) → nodes_by nodes s alone ≡ Ok all → All Begins all
unfolding nodes_by
nodes_begin nodes s alone all h =
    through_keeps (All Begins) (λ n made. with_node nodes s.numbers alone (slice_get nodes n) made)
    (λ n x y. with_begins nodes s.numbers alone (slice_get nodes n) x y) s.order [] all h (All-nil Begins)

-- ---- a scene

abbrev viewed : Flat → Numbering → List SceneNode → SceneView
viewed flat s nodes = record {
  header = flat.header;
  nodes = nodes;
  roots = called s.numbers flat.roots;
  helpers = called s.numbers flat.helpers;
  opened = s.opened;
  numbers = s.numbers;
}

abbrev limited : Flat → Numbering → List SceneNode → Result SceneView SceneFault
limited flat s nodes = limits nodes (called s.numbers flat.roots) >>= λ _. Ok (viewed flat s nodes)

abbrev with_helpers : Flat → Numbering → List SceneNode → Result SceneView SceneFault
with_helpers flat s nodes = all_children flat.nodes flat.helpers >>= λ _. limited flat s nodes

abbrev with_roots : Flat → Numbering → List SceneNode → Result SceneView SceneFault
with_roots flat s nodes = all_children flat.nodes flat.roots >>= λ _. with_helpers flat s nodes

nodes_are : (flat : Flat) (s : Numbering) (scene : SceneView) → scene_by flat s ≡ Ok scene → nodes_of flat.nodes s ≡ Ok scene.nodes
nodes_are flat s scene h =
    let a = bind_is (nodes_of flat.nodes s) (with_roots flat s) scene h in
    let b = bind_is (all_children flat.nodes flat.roots) (λ _. with_helpers flat s a.0) scene a.2 in
    let c = bind_is (all_children flat.nodes flat.helpers) (λ _. limited flat s a.0) scene b.2 in
    let d = bind_is (limits a.0 (called s.numbers flat.roots)) (λ _. Ok (viewed flat s a.0)) scene c.2 in
    subst (λ (v : SceneView). nodes_of flat.nodes s ≡ Ok v.nodes) (ok_is (viewed flat s a.0) scene d.2) a.1

limits_are : (flat : Flat) (s : Numbering) (scene : SceneView) → scene_by flat s ≡ Ok scene → IsLimited scene.nodes scene.roots
limits_are flat s scene h =
    let a = bind_is (nodes_of flat.nodes s) (with_roots flat s) scene h in
    let b = bind_is (all_children flat.nodes flat.roots) (λ _. with_helpers flat s a.0) scene a.2 in
    let c = bind_is (all_children flat.nodes flat.helpers) (λ _. limited flat s a.0) scene b.2 in
    let d = bind_is (limits a.0 (called s.numbers flat.roots)) (λ _. Ok (viewed flat s a.0)) scene c.2 in
    subst (λ (v : SceneView). IsLimited v.nodes v.roots) (ok_is (viewed flat s a.0) scene d.2) d.1

abbrev pub numbers_of : Flat → Numbering
numbers_of flat = numbering flat.nodes flat.roots flat.helpers

-- a scene's nodes are those of its document, in the order of their numbers
pub scene_nodes : (flat : Flat) (scene : SceneView) → scene_of flat ≡ Ok scene → nodes_of flat.nodes (numbers_of flat) ≡ Ok scene.nodes
unfolding scene_of
scene_nodes flat scene h = nodes_are flat (numbers_of flat) scene h

-- a document's scene keeps to the limits
pub scene_limited : (flat : Flat) (scene : SceneView) → scene_of flat ≡ Ok scene → IsLimited scene.nodes scene.roots
unfolding scene_of
scene_limited flat scene h = limits_are flat (numbers_of flat) scene h

scene_begins : (flat : Flat) (scene : SceneView) → scene_of flat ≡ Ok scene → All Begins scene.nodes
scene_begins flat scene h =
    let s : Numbering = numbers_of flat in
    nodes_begin flat.nodes s (is_alone (names_of flat.nodes s.order)) scene.nodes (scene_nodes flat scene h)

-- ---- its world

no_cycle : (t : NodeType) → time_fits t None ≡ true
no_cycle TimeSensor = refl
no_cycle _ = refl

one_less : (m n : ℕ) → suc m ≡ suc n → m ≡ n
one_less m n e = omega (arith, e)

-- what is kept where viewers point, node by node
abbrev pub begins_at : List SceneNode → List PointingState
begins_at ns = map start_of (map (λ (n : SceneNode). n.node_type) ns)

all_begin : (ns : List SceneNode) (cs : List (Option ℕ)) → length cs ≡ length ns → All (λ c. c ≡ None) cs → All Begins ns → list_all is_countable_node ns ≡ true
    → nodes_fit (map shape_of ns) (map fields_of ns) cs (begins_at ns) ≡ true
all_begin [] [] k p b c = refl
all_begin [] (x ∷ cs) k p b c = absurd cc
all_begin (n ∷ ns) [] k p b c = absurd cc
all_begin (n ∷ ns) (x ∷ cs) k p b c =
    let d = both (is_countable_node n) (list_all is_countable_node ns) c in
    let cycle = All-head (λ (o : Option ℕ). o ≡ None) x cs p in
    and_true _ _
    (and_true _ _ ((All-head Begins n ns b).0 d.0)
    (and_true _ _ (subst (λ (o : Option ℕ). time_fits n.node_type o ≡ true) (sym cycle) (no_cycle n.node_type)) (states_fit n.node_type)))
    (all_begin ns cs (one_less (length cs) (length ns) k) (All-tail (λ (o : Option ℕ). o ≡ None) x cs p) (All-tail Begins n ns b) d.1)

none_yet : 0 ≤ max_inputs
none_yet = omega arith

pub all_openings_fit : UntoldWorldsFit
unfolding state_of
all_openings_fit flat scene h c =
    let count : ℕ = length (map fields_of scene.nodes) in
    let as_many : count ≡ length scene.nodes = length-map scene.nodes fields_of in
    record {
      count = none_yet;
      last = refl;
      nodes = all_begin scene.nodes (replicate count None) (length-replicate count None ∙ as_many)
          (All-replicate (λ (o : Option ℕ). o ≡ None) count None refl) (scene_begins flat scene h) c;
      buttons = length-replicate MAX_VIEWERS false;
      lines = refl;
    }

only_ranged : (ns : List SceneNode) → All Begins ns → All IsRanged ns
only_ranged [] b = All-nil IsRanged
only_ranged (n ∷ ns) b = All-cons IsRanged n ns (All-head Begins n ns b).1 (only_ranged ns (All-tail Begins n ns b))

-- all that a scene's nodes begin with is in range
pub scene_ranged : (flat : Flat) (scene : SceneView) → scene_of flat ≡ Ok scene → All IsRanged scene.nodes
scene_ranged flat scene h = only_ranged scene.nodes (scene_begins flat scene h)

pub all_starts_fit : StartsAreStates
all_starts_fit flat scene h run = starts_fit scene (scene_ranged flat scene h) run
