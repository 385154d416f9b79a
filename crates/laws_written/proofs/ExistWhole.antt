-- Of what is written of a scene there is a scene, within the limits of size.
use Rattle.std.proofs.Common.{◌≡◌, ◌⊎◌, ℕ, zero, suc, ◌+◌, ◌<◌, Bool, true, false, ◌||◌, if◌then◌else◌, List, [], ◌∷◌, length, map, nat_lt, Option, Some, Result, Ok, Err, slice_get, refl, sym, ap, subst, ◌∙◌, inl, inr, arith}
use Rattle.std.specs.Prelude.{is_some}
use Rattle.std.specs.List.{AllByRecursion, range_with_len}
use Rattle.x3d_values.specs.declared.fields.Fields.{Fields}
use Rattle.x3d_values.specs.declared.node_type.NodeKind.TheVariants.{Child}
use Rattle.x3d_values.specs.declared.node_type.NodeType.{NodeType}
use Rattle.x3d_values.specs.Ranges.{max_depth, max_places}
use Rattle.x3d_values.specs.Tables.{AreTyped, rows}
use Rattle.classic_tree.specs.declared.tree.Document.{Document}
use Rattle.proto_flat.specs.declared.flat.Flat.{Flat}
use Rattle.proto_flat.specs.declared.flat.FlatNode.{FlatNode}
use Rattle.laws_documents.specs.Closings.{Braces, IsOfNode, Shown, closings, expected}
use Rattle.scene_core.specs.declared.fault.SceneFault.{SceneFault}
use Rattle.scene_core.specs.declared.fault.SceneFaultKind.TheVariants.{BadChild, TooDeep, TooMany}
use Rattle.scene_core.specs.declared.scene.Route.{Route}
use Rattle.scene_core.specs.declared.scene.SceneNode.{SceneNode}
use Rattle.scene_core.specs.Building.{called as called_of, limits, nodes_by, nodes_of, scene_of}
use Rattle.scene_core.specs.Deep.{too_deep}
use Rattle.scene_core.specs.Faults.{fault, ◌>>=◌}
use Rattle.scene_core.specs.Places.{any_crowded, places}
use Rattle.scene_core.specs.Wide.{any_wide}
use Rattle.scene_core.specs.Scene.{SceneView}
use Rattle.scene_core.specs.Typed.{all_children, child, line_of, takes}
use Rattle.scene_text.specs.Statements.{scene_document}
use Rattle.laws_written.proofs.NumberedScenes.{IsSceneOf, alone_in, found, numbers_of, viewed, viewed_is}
use Rattle.laws_written.specs.Defaults.{DefaultsAreLeftOut, LeftOutAreDefaults}
use Rattle.laws_written.specs.Values.{WrittenNodesAreTyped}
use Rattle.laws_written.specs.Writable.{AreKeepable}
use Rattle.laws_written.proofs.Lists.{all_append}
use Rattle.laws_written.specs.Braces.{WrittenNodesClose, as_switch, written_as, written_braces}
use Rattle.laws_written.specs.NodesFlats.{IsFlatOf, WrittenNodesStay}
use Rattle.laws_written.specs.Nodes.{switch_root}
use Rattle.laws_written.proofs.Plans.{type_is}
use Rattle.laws_written.specs.FieldsFlats.{HasFieldsOf, WrittenFieldsStay}
use Rattle.laws_written.specs.Sound.{AreOfType, AreSound}
use Rattle.laws_documents.proofs.Heads.{helpers_are_of_instances}
use Rattle.laws_written.proofs.AgainNumbered.{last_is, many}
use Rattle.laws_written.proofs.AgainLimits.{keeps_limits}
use Rattle.laws_written.specs.Exist.{AreInRange, IsAtTooManyPlaces, IsSceneOrLimit, WrittenScenesExist}
use Rattle.laws_written.proofs.AgainNodes.{all_taken_by, each_okay}
use Rattle.laws_written.proofs.Okay.{IsOkay, nodes_okay, okay_then}
use Rattle.laws_written.proofs.Standing.{goes_into, roots_kind, takes_is}

-- ---- each pair of braces is of a node

abbrev HasType : Shown → Type 0
HasType s = is_some s.0 ≡ true

of_nodes : (bs : List Braces) → AllByRecursion HasType (map expected bs) → AllByRecursion IsOfNode bs
of_nodes [] h = tt
of_nodes (b ∷ bs) h = (h.0, of_nodes bs h.1)

module _ (s : SceneView) (routes : List Route) where
  typed : (n : ℕ) → n < length s.nodes → HasType (written_as s routes n)
  typed n l =
      let f = found s.nodes n l in
      ap (λ (o : Option NodeType). is_some o) (type_is s n f.0 f.1)

  all_typed : (from many : ℕ) → from + many ≡ length s.nodes → AllByRecursion HasType (map (written_as s routes) (range_with_len from many))
  all_typed from zero e = tt
  all_typed from (suc many) e = (typed from (omega (arith, e)), all_typed (from + 1) many (omega (arith, e)))

  switch_typed : (helpers : List ℕ) → AllByRecursion HasType (as_switch helpers)
  switch_typed [] = tt
  switch_typed (n ∷ ns) = (refl, tt)

  written_typed : AllByRecursion HasType (written_braces s routes)
  written_typed =
      all_append HasType (map (written_as s routes) (range_with_len 0 (length s.nodes))) (as_switch s.helpers)
      (all_typed 0 (length s.nodes) (omega arith)) (switch_typed s.helpers)

-- ---- roots

abbrev done : Result (Unit {0}) SceneFault
done = Ok tt

child_okay : (b : Bool) (e : SceneFault) → b ≡ true → IsOkay (if b then done else Err e)
child_okay true e h = tt
child_okay false e h = absurd cc

children_okay : (nodes : List FlatNode) (ns : List ℕ) → AllByRecursion (λ (m : ℕ). takes (Some Child) (slice_get nodes m) ≡ true) ns → IsOkay (all_children nodes ns)
unfolding child
children_okay nodes [] h = tt
children_okay nodes (m ∷ ns) h =
    okay_then (child nodes m) (λ _. all_children nodes ns)
    (child_okay (takes (Some Child) (slice_get nodes m)) (fault BadChild (line_of (slice_get nodes m))) h.0) (λ _. children_okay nodes ns h.1)

-- ---- limits

-- of the result alone: TooMany only if there are too many places, which `P` says
abbrev OrLimit : Type 0 → Result SceneView SceneFault → Type 0
OrLimit P result = ((scene : SceneView) × (result ≡ Ok scene)) ⊎ ((result ≡ Err (fault TooDeep 0)) ⊎ ((result ≡ Err (fault TooMany 0)) × P))

then_limit : {A : Type 0} (P : Type 0) (r : Result A SceneFault) (k : A → Result SceneView SceneFault) → IsOkay r
    → ((a : A) → r ≡ Ok a → OrLimit P (k a)) → OrLimit P (r >>= k)
then_limit P (Ok a) k h g = g a refl
then_limit P (Err e) k h g = absurd h

differ : true ≡ false → ⊥
differ h = absurd cc

limits_then : (P : Type 0) (deep crowds others : Bool) (s : SceneView) → (crowds ≡ true → P) → (deep ≡ false → others ≡ false)
    → OrLimit P ((if deep then Err (fault TooDeep 0) else (if crowds || others then Err (fault TooMany 0) else done)) >>= λ _. Ok s)
limits_then P true crowds others s f g = inr (inl refl)
limits_then P false true others s f g = inr (inr (refl, f refl))
limits_then P false false true s f g = absurd (differ (g refl))
limits_then P false false false s f g = inl (s, refl)

above : (n m : ℕ) → nat_lt n m ≡ true → n < m
above n m h = grind (arith, h)

module _ (flat : Flat) where
  abbrev roots_in : List ℕ
  roots_in = called_of (numbers_of flat).numbers flat.roots

  abbrev limited : List SceneNode → Result SceneView SceneFault
  limited nodes = limits nodes roots_in >>= λ _. Ok (viewed flat nodes)

  abbrev with_helpers : List SceneNode → Result SceneView SceneFault
  with_helpers nodes = all_children flat.nodes flat.helpers >>= λ _. limited nodes

  abbrev with_roots : List SceneNode → Result SceneView SceneFault
  with_roots nodes = all_children flat.nodes flat.roots >>= λ _. with_helpers nodes

  -- the other limits hold of nodes that were made
  abbrev KeepsOthers : Type 0
  KeepsOthers =
      (nodes : List SceneNode) → IsSceneOf flat (viewed flat nodes) → (any_crowded nodes roots_in || any_wide nodes) ≡ false

  limited_is : (nodes : List SceneNode) → nodes_of flat.nodes (numbers_of flat) ≡ Ok nodes
      → (too_deep nodes ≡ false → (any_crowded nodes roots_in || any_wide nodes) ≡ false) → OrLimit (IsAtTooManyPlaces flat) (limited nodes)
  unfolding limits
  limited_is nodes made others =
      limits_then (IsAtTooManyPlaces flat) (too_deep nodes) (nat_lt max_places (places max_depth nodes roots_in)) (any_crowded nodes roots_in || any_wide nodes) (viewed flat nodes)
      (λ h. record { nodes = nodes; are_nodes = made; many = above max_places (places max_depth nodes roots_in) h })
      others

  scene_or_limit : KeepsOthers → IsOkay (nodes_of flat.nodes (numbers_of flat)) → IsOkay (all_children flat.nodes flat.roots) → IsOkay (all_children flat.nodes flat.helpers)
      → IsSceneOrLimit flat
  unfolding scene_of
  scene_or_limit others a b c =
      let P : Type 0 = IsAtTooManyPlaces flat in
      then_limit P (nodes_of flat.nodes (numbers_of flat)) with_roots a (λ nodes made.
      then_limit P (all_children flat.nodes flat.roots) (λ _. with_helpers nodes) b (λ _ roots.
      then_limit P (all_children flat.nodes flat.helpers) (λ _. limited nodes) c (λ _ helpers.
      limited_is nodes made (λ shallow. others nodes (viewed_is flat nodes made roots helpers shallow)))))

none_okay : (nodes : List FlatNode) (ns : List ℕ) → ns ≡ [] → IsOkay (all_children nodes ns)
none_okay nodes ns e = subst (λ (l : List ℕ). IsOkay (all_children nodes l)) (sym e) tt

-- ---- the scene

module _ (from : Flat) (s : SceneView) (routes : List Route) (state : List Fields) (again : Flat) (is_scene : scene_of from ≡ Ok s) (kept : AreKeepable state)
    (of_type : AreOfType s state) (ranged : AreInRange s state) (sound : AreSound s) (table : (t : NodeType) → AreTyped (rows t)) (same : IsFlatOf s routes again)
    (filled : HasFieldsOf s state again) (none : again.helpers ≡ []) (typed_again : WrittenNodesAreTyped) (all_left : DefaultsAreLeftOut) where
  nodes_made : IsOkay (nodes_of again.nodes (numbers_of again))
  unfolding nodes_by
  nodes_made =
      nodes_okay again.nodes (numbers_of again).numbers (alone_in again)
      (each_okay from s routes state again is_scene kept of_type ranged sound table same filled none typed_again all_left) (numbers_of again).order []

  switch_taken : (hs : List ℕ) → s.helpers ≡ hs → AllByRecursion (λ (m : ℕ). takes (Some Child) (slice_get again.nodes m) ≡ true) (switch_root (length s.nodes) hs)
  switch_taken [] e = tt
  switch_taken (h ∷ hs) e =
      let as_many = many from s routes state again is_scene kept of_type sound table same filled none in
      let one : length (switch_root (length s.nodes) s.helpers) ≡ 1 = ap (λ (l : List ℕ). length (switch_root (length s.nodes) l)) e in
      let g = found again.nodes (length s.nodes) (omega (arith, as_many, one)) in
      let a = last_is from s routes state again is_scene kept of_type sound table same filled none h hs g.0 e g.1 in (
        ap (λ (o : Option FlatNode). takes (Some Child) o) g.1 ∙ (takes_is (Some Child) g.0 ∙ ap (λ (t : NodeType). goes_into (Some Child) t) a.node_type),
        tt,
      )

  roots_okay : IsOkay (all_children again.nodes again.roots)
  roots_okay =
      children_okay again.nodes again.roots
      (subst (AllByRecursion (λ (m : ℕ). takes (Some Child) (slice_get again.nodes m) ≡ true)) (sym same.roots)
      (all_append (λ (m : ℕ). takes (Some Child) (slice_get again.nodes m) ≡ true) s.roots (switch_root (length s.nodes) s.helpers)
      (all_taken_by from s routes state again is_scene kept of_type ranged sound table same filled none typed_again all_left (Some Child) s.roots (roots_kind from s is_scene))
      (switch_taken s.helpers refl)))

  pub exists : LeftOutAreDefaults → IsSceneOrLimit again
  exists left_out =
      scene_or_limit again
      (λ nodes scene. keeps_limits from s routes state again is_scene kept of_type sound table same filled none (viewed again nodes) scene typed_again left_out)
      nodes_made roots_okay (none_okay again.nodes again.helpers none)

pub all_exist : ((t : NodeType) → AreTyped (rows t)) → WrittenNodesAreTyped → LeftOutAreDefaults → DefaultsAreLeftOut → WrittenNodesClose → WrittenNodesStay → WrittenFieldsStay → WrittenScenesExist
all_exist table values left_out defaults close stay fill from scene routes state again is few kept of_type ranged sound distinct e =
    let d : Document = scene_document scene routes state in
    let nodes = of_nodes (closings d) (subst (AllByRecursion HasType) (sym (close from scene routes state is kept)) (written_typed scene routes)) in
    exists from scene routes state again is kept of_type ranged sound table (stay from scene routes state again is few kept e)
    (fill from scene routes state again is few kept distinct e) (helpers_are_of_instances d again nodes e) values defaults left_out
