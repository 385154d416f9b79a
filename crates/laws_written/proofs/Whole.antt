-- The scene that is read again is the scene that was written.
use Rattle.std.proofs.Common.{◌≡◌, ℕ, zero, suc, ◌+◌, ◌<◌, true, List, [], ◌∷◌, length, map, Option, refl, sym, ap, subst, arith}
use Rattle.std.specs.Prelude.{is_some}
use Rattle.std.specs.List.{AllByRecursion, range_with_len}
use Rattle.x3d_values.specs.declared.node_type.NodeType.{NodeType}
use Rattle.x3d_values.specs.Tables.{AreTyped, rows}
use Rattle.classic_tree.specs.declared.tree.Document.{Document}
use Rattle.laws_documents.specs.Closings.{Braces, IsOfNode, Shown, closings, expected}
use Rattle.scene_core.specs.declared.scene.Route.{Route}
use Rattle.scene_core.specs.Scene.{SceneView}
use Rattle.scene_text.specs.Statements.{scene_document}
use Rattle.laws_written.proofs.NumberedScenes.{IsSceneOf, found, scene_is}
use Rattle.laws_written.specs.Defaults.{LeftOutAreDefaults}
use Rattle.laws_written.specs.Headers.{HeadersAreKept}
use Rattle.laws_written.specs.Labels.{LabelsAreDistinct}
use Rattle.laws_written.specs.Values.{WrittenNodesAreTyped}
use Rattle.laws_written.specs.Braces.{WrittenNodesClose, as_switch, written_as, written_braces}
use Rattle.laws_written.specs.NodesFlats.{WrittenNodesStay}
use Rattle.laws_written.proofs.NodesParts.{all_join}
use Rattle.laws_written.proofs.Plans.{type_is}
use Rattle.laws_written.specs.FieldsFlats.{WrittenFieldsStay}
use Rattle.laws_written.specs.Again.{WrittenScenesAreAgain}
use Rattle.laws_documents.proofs.Heads.{helpers_are_of_instances}
use Rattle.laws_written.proofs.AgainLabels.{next_labels, next_names}
use Rattle.laws_written.proofs.Switches.{next_switch}
use Rattle.laws_written.proofs.InPlace.{numbers_are}
use Rattle.laws_written.proofs.AgainNumbered.{numbered_in_place}
use Rattle.laws_written.proofs.Next.{next_children, next_declared, next_helpers, next_many, next_roots, next_rows, next_types, next_values}

-- ---- each pair of braces is of a node

abbrev HasType : Shown → Type 0
HasType s = is_some s.0 ≡ true

of_nodes : (bs : List Braces) → AllByRecursion HasType (map expected bs) → AllByRecursion IsOfNode bs
of_nodes [] h = tt
of_nodes (b ∷ bs) h = (h.0, of_nodes bs h.1)

module _ (s : SceneView) (routes : List Route) where
  typed : (n : ℕ) → n < length s.nodes → HasType (written_as s routes n)
  typed n l =
      let f = found s.nodes n l in
      ap (λ (o : Option NodeType). is_some o) (type_is s n f.0 f.1)

  all_typed : (from many : ℕ) → from + many ≡ length s.nodes → AllByRecursion HasType (map (written_as s routes) (range_with_len from many))
  all_typed from zero e = tt
  all_typed from (suc many) e = (typed from (omega (arith, e)), all_typed (from + 1) many (omega (arith, e)))

  switch_typed : (helpers : List ℕ) → AllByRecursion HasType (as_switch helpers)
  switch_typed [] = tt
  switch_typed (n ∷ ns) = (refl, tt)

  written_typed : AllByRecursion HasType (written_braces s routes)
  written_typed =
      all_join HasType (map (written_as s routes) (range_with_len 0 (length s.nodes))) (as_switch s.helpers)
      (all_typed 0 (length s.nodes) (omega arith)) (switch_typed s.helpers)

-- ---- the scene

pub all_again : ((t : NodeType) → AreTyped (rows t)) → HeadersAreKept → LabelsAreDistinct → WrittenNodesAreTyped → LeftOutAreDefaults
    → WrittenNodesClose → WrittenNodesStay → WrittenFieldsStay → WrittenScenesAreAgain
all_again table headers labels values defaults close stay fill from scene routes state again next is few kept of_type sound distinct e h =
    let d : Document = scene_document scene routes state in
    let nodes = of_nodes (closings d) (subst (AllByRecursion HasType) (sym (close from scene routes state is kept)) (written_typed scene routes)) in
    let none = helpers_are_of_instances d again nodes e in
    let same = stay from scene routes state again is few kept e in
    let filled = fill from scene routes state again is few kept distinct e in
    let scene_again : IsSceneOf again next = scene_is again next h in
    record {
      header = headers scene routes state again next e h;
      roots = next_roots from scene routes state again is kept of_type sound table same filled none next scene_again values defaults;
      helpers = next_helpers from scene routes state again is kept of_type sound table same filled none next scene_again values defaults;
      types = next_types from scene routes state again is kept of_type sound table same filled none next scene_again values defaults;
      declared = next_declared from scene routes state again is kept of_type sound table same filled none next scene_again values defaults;
      rows = next_rows from scene routes state again is kept of_type sound table same filled none next scene_again values defaults;
      children = next_children from scene routes state again is kept of_type sound table same filled none next scene_again values defaults;
      values = next_values from scene routes state again is kept of_type sound table same filled none next scene_again values defaults;
      names = next_names from scene routes state again is kept of_type sound table same filled none next h values defaults few labels;
      labels = next_labels from scene routes state again is kept of_type sound table same filled none next h values defaults few labels;
      numbers = numbers_are again next h (numbered_in_place from scene routes state again is kept of_type sound table same filled none)
          (next_many from scene routes state again is kept of_type sound table same filled none next scene_again values defaults);
      switch = next_switch from scene routes state again is kept of_type sound table same filled none next h values defaults;
    }
