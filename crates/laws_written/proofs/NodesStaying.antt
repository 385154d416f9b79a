-- The nodes of the flat form of a written scene are the scene's.
use Rattle.std.proofs.Common.{◌≡◌, ℕ, zero, suc, ◌+◌, ◌<◌, true, List, [], ◌∷◌, length, map, Option, refl, sym, ap, subst, ◌∙◌, arith}
use Rattle.std.specs.Prelude.{is_some}
use Rattle.std.specs.List.{AllByRecursion, range_with_len}
use Rattle.x3d_values.specs.declared.node_type.NodeType.{NodeType}
use Rattle.classic_tree.specs.declared.tree.Document.{Document}
use Rattle.laws_documents.specs.Closings.{Braces, IsOfNode, Shown, closings, expected}
use Rattle.laws_documents.specs.Uses.{some}
use Rattle.laws_documents.proofs.Closing.{nodes_close}
use Rattle.laws_documents.proofs.Uses.{uses_are_named}
use Rattle.scene_core.specs.declared.scene.Route.{Route}
use Rattle.scene_core.specs.Scene.{SceneView}
use Rattle.scene_text.specs.Statements.{scene_document}
use Rattle.laws_written.proofs.NumberedScenes.{found}
use Rattle.laws_written.specs.Labels.{LabelsAreDistinct}
use Rattle.laws_written.specs.Braces.{as_switch, written_as, written_braces}
use Rattle.laws_written.specs.NodesFlats.{WrittenNodesStay}
use Rattle.laws_written.proofs.Closing.{all_close}
use Rattle.laws_written.proofs.NodesParts.{all_join}
use Rattle.laws_written.proofs.Plans.{type_is}
use Rattle.laws_written.proofs.NodesWhole.{all_read}

abbrev HasType : Shown → Type 0
HasType s = is_some s.0 ≡ true

of_nodes : (bs : List Braces) → AllByRecursion HasType (map expected bs) → AllByRecursion IsOfNode bs
of_nodes [] h = tt
of_nodes (b ∷ bs) h = (h.0, of_nodes bs h.1)

module _ (s : SceneView) (routes : List Route) where
  typed : (n : ℕ) → n < length s.nodes → HasType (written_as s routes n)
  typed n l =
      let f = found s.nodes n l in
      ap (λ (o : Option NodeType). is_some o)
      (type_is s n f.0 f.1)

  all_typed : (from many : ℕ) → from + many ≡ length s.nodes → AllByRecursion HasType (map (written_as s routes) (range_with_len from many))
  all_typed from zero e = tt
  all_typed from (suc many) e = (typed from (omega (arith, e)), all_typed (from + 1) many (omega (arith, e)))

  switch_typed : (helpers : List ℕ) → AllByRecursion HasType (as_switch helpers)
  switch_typed [] = tt
  switch_typed (n ∷ ns) = (refl, tt)

  written_typed : AllByRecursion HasType (written_braces s routes)
  written_typed =
      all_join HasType (map (written_as s routes) (range_with_len 0 (length s.nodes))) (as_switch s.helpers)
      (all_typed 0 (length s.nodes) (omega arith)) (switch_typed s.helpers)

same_head : (x y : ℕ) (xs ys : List (Option ℕ)) → (some x ∷ xs) ≡ (some y ∷ ys) → x ≡ y
same_head x y xs ys e = cc

same_tail : (x y : ℕ) (xs ys : List (Option ℕ)) → (some x ∷ xs) ≡ (some y ∷ ys) → xs ≡ ys
same_tail x y xs ys e = cc

same_numbers : (xs ys : List ℕ) → map some xs ≡ map some ys → xs ≡ ys
same_numbers [] [] e = refl
same_numbers [] (y ∷ ys) e = absurd cc
same_numbers (x ∷ xs) [] e = absurd cc
same_numbers (x ∷ xs) (y ∷ ys) e =
    ap (λ (n : ℕ). n ∷ xs) (same_head x y (map some xs) (map some ys) e)
    ∙ ap (λ (l : List ℕ). y ∷ l) (same_numbers xs ys (same_tail x y (map some xs) (map some ys) e))

pub all_stay : LabelsAreDistinct → WrittenNodesStay
all_stay distinct from scene routes state again is few kept e =
    let d : Document = scene_document scene routes state in
    let closes = all_close from scene routes state is kept in
    let reads = all_read distinct from scene routes state is few kept in
    let nodes = of_nodes (closings d) (subst (AllByRecursion HasType) (sym closes) (written_typed scene routes)) in
    let uses = uses_are_named d again nodes e in
    record {
      nodes = nodes_close d again nodes e ∙ closes;
      inside = uses.0 ∙ reads.0;
      roots = same_numbers again.roots _ (uses.1 ∙ reads.1);
    }
