-- A scene has no more nodes than its document.
use Rattle.std.proofs.Common.{◌≡◌, ℕ, zero, suc, ◌+◌, ◌≤◌, Bool, true, false, List, [], ◌∷◌, ◌++◌, length, replicate, Option, Some, None, Result, Ok, slice_get, refl, subst, arith}
use Rattle.std.specs.List.{fold}
use Rattle.std.proofs.lemmas.List.{length-append}
use Rattle.proto_flat.specs.declared.flat.Flat.{Flat}
use Rattle.proto_flat.specs.declared.flat.FlatNode.{FlatNode}
use Rattle.scene_core.specs.declared.fault.SceneFault.{SceneFault}
use Rattle.scene_core.specs.declared.numbering.Numbering.{Numbering}
use Rattle.scene_core.specs.declared.scene.SceneNode.{SceneNode}
use Rattle.scene_core.specs.Building.{node_of, with_node, nodes_by, scene_of}
use Rattle.scene_core.specs.Faults.{through}
use Rattle.scene_core.specs.Labels.{is_alone, is_label, names_of}
use Rattle.scene_core.specs.Scene.{SceneView}
use Rattle.scene_core.specs.Numbers.{is_new, appear, close, visit, unnumbered, numbering}
use Rattle.scene_core.specs.Parts.{parts_of}
use Rattle.scene_core.specs.Tasks.{unopened}
use Rattle.scene_core.proofs.Fuel.{appear-fewer}
use Rattle.laws_worlds.proofs.Routes.{ok_is}
use Rattle.laws_worlds.proofs.Kept.{bind_is}
use Rattle.laws_worlds.proofs.Openings.{numbers_of, scene_nodes}

-- ---- the nodes that have a number, and those that have not appeared

abbrev size : Numbering → ℕ
size s = length s.order + unopened s.opened

fold_keeps : (f : Numbering → ℕ → Numbering) → ((s : Numbering) (n : ℕ) → size (f s n) ≤ size s) → (s : Numbering) (ns : List ℕ) → size (fold f s ns) ≤ size s
fold_keeps f k s [] = omega arith
fold_keeps f k s (n ∷ ns) = omega (arith, fold_keeps f k (f s n) ns, k s n)

closed : (t : Numbering) (n : ℕ) → size (close t n) ≡ size t + 1
closed t n = omega (arith, length-append t.order (n ∷ []))

module _ (nodes : List FlatNode) where
  once : (s t : Numbering) (n : ℕ) → is_new s n ≡ true → size t ≤ size (appear s n) → size (close t n) ≤ size s
  once s t n new h = omega (arith, closed t n, appear-fewer s n new, h)

  visit_step : (fuel : ℕ) → ((s : Numbering) (n : ℕ) → size (visit fuel nodes s n) ≤ size s) → (s : Numbering) (n : ℕ) (b : Bool) → is_new s n ≡ b → size (visit (suc fuel) nodes s n) ≤ size s
  unfolding visit
  visit_step fuel keeps s n true e =
      let h = once s (fold (visit fuel nodes) (appear s n) (parts_of nodes n)) n e (fold_keeps (visit fuel nodes) keeps (appear s n) (parts_of nodes n)) in
      rw e h
  visit_step fuel keeps s n false e = rw e (omega arith)

  visit_zero : (s : Numbering) (n : ℕ) → size (visit zero nodes s n) ≤ size s
  unfolding visit
  visit_zero s n = omega arith

  visit_keeps : (fuel : ℕ) (s : Numbering) (n : ℕ) → size (visit fuel nodes s n) ≤ size s
  visit_keeps zero s n = visit_zero s n
  visit_keeps (suc fuel) s n = visit_step fuel (λ t m. visit_keeps fuel t m) s n (is_new s n) refl

  all_unopened : (n : ℕ) → unopened (replicate n false) ≡ n
  unfolding unopened
  all_unopened zero = refl
  all_unopened (suc n) = omega (arith, all_unopened n)

  pub order_few : (roots helpers : List ℕ) → length (numbering nodes roots helpers).order ≤ length nodes
  unfolding numbering
  order_few roots helpers =
      let k = fold_keeps (visit (length nodes + 1) nodes) (visit_keeps (length nodes + 1)) (unnumbered nodes) (roots ++ helpers) in
      omega (arith, k, all_unopened (length nodes))

-- ---- the nodes of a scene

with_one : (nodes : List FlatNode) (numbers : List ℕ) (alone : List ℕ → Bool) (o : Option FlatNode) (x y : List SceneNode) → with_node nodes numbers alone o x ≡ Ok y → length y ≤ length x + 1
with_one nodes numbers alone None x y h = subst (λ (l : List SceneNode). length l ≤ length x + 1) (ok_is x y h) (omega arith)
with_one nodes numbers alone (Some node) x y h =
    let b = bind_is (node_of nodes numbers (is_label alone (length x)) node) (λ n. Ok (x ++ n ∷ [])) y h in
    subst (λ (l : List SceneNode). length l ≤ length x + 1) (ok_is (x ++ b.0 ∷ []) y b.2) (omega (arith, length-append x (b.0 ∷ [])))

through_few : {A X : Type 0} (step : A → List X → Result (List X) SceneFault) → ((a : A) (x y : List X) → step a x ≡ Ok y → length y ≤ length x + 1) → (items : List A) (x y : List X) → through step items x ≡ Ok y → length y ≤ length x + length items
through_few {A} {X} step k [] x y h = subst (λ (l : List X). length l ≤ length x + 0) (ok_is x y h) (omega arith)
through_few {A} {X} step k (a ∷ items) x y h =
    let b = bind_is (step a x) (λ more. through step items more) y h in
    omega (arith, k a x b.0 b.1, through_few step k items b.0 y b.2)

pub nodes_few : (nodes : List FlatNode) (s : Numbering) (alone : List ℕ → Bool) (all : List SceneNode) → nodes_by nodes s alone ≡ Ok all → length all ≤ length s.order
unfolding nodes_by
nodes_few nodes s alone all h =
    let f = through_few (λ n done. with_node nodes s.numbers alone (slice_get nodes n) done)
    (λ n x y. with_one nodes s.numbers alone (slice_get nodes n) x y) s.order [] all h in
    omega (arith, f)

pub scene_few : (flat : Flat) (scene : SceneView) → scene_of flat ≡ Ok scene → length scene.nodes ≤ length flat.nodes
scene_few flat scene h =
    let s : Numbering = numbers_of flat in
    omega (arith, nodes_few flat.nodes s (is_alone (names_of flat.nodes s.order)) scene.nodes (scene_nodes flat scene h), order_few flat.nodes flat.roots flat.helpers)
