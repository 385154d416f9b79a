-- The number that a node of a document has in a scene where each has its own place as its number.
use Rattle.std.proofs.Common.{◌≡◌, ℕ, zero, suc, ◌+◌, ◌<◌, Bool, true, false, if◌then◌else◌, List, length, replicate, Option, Some, None, Result, Ok, slice_get, refl, sym, ap, ◌∙◌, arith}
use Rattle.std.specs.Prelude.{slice_index_or}
use Rattle.std.specs.List.{range_with_len}
use Rattle.proto_flat.specs.declared.flat.Flat.{Flat}
use Rattle.scene_core.specs.declared.fault.SceneFault.{SceneFault}
use Rattle.scene_core.specs.declared.numbering.Numbering.{Numbering}
use Rattle.scene_core.specs.declared.scene.SceneNode.{SceneNode}
use Rattle.scene_core.specs.Building.{called, limits, nodes_of, scene_of}
use Rattle.scene_core.specs.Faults.{◌>>=◌}
use Rattle.scene_core.specs.Scene.{SceneView, number_of}
use Rattle.scene_core.specs.Typed.{all_children}
use Rattle.laws_written.specs.ScenesAgain.{in_place}
use Rattle.laws_written.proofs.Inner.{bind_is, scene_ok_is}
use Rattle.laws_written.proofs.NumberedScenes.{numbers_of}
use Rattle.laws_written.proofs.Places.{range_at}

module _ (flat : Flat) where
  abbrev viewed : List SceneNode → SceneView
  viewed nodes = record {
    header = flat.header;
    nodes = nodes;
    roots = called (numbers_of flat).numbers flat.roots;
    helpers = called (numbers_of flat).numbers flat.helpers;
    opened = (numbers_of flat).opened;
    numbers = (numbers_of flat).numbers;
  }

  abbrev limited : List SceneNode → Result SceneView SceneFault
  limited nodes = limits nodes (called (numbers_of flat).numbers flat.roots) >>= λ _. Ok (viewed nodes)

  abbrev with_helpers : List SceneNode → Result SceneView SceneFault
  with_helpers nodes = all_children flat.nodes flat.helpers >>= λ _. limited nodes

  abbrev with_roots : List SceneNode → Result SceneView SceneFault
  with_roots nodes = all_children flat.nodes flat.roots >>= λ _. with_helpers nodes

  viewed_is : (scene : SceneView) → scene_of flat ≡ Ok scene → (nodes : List SceneNode) × (viewed nodes ≡ scene)
  unfolding scene_of
  viewed_is scene h =
      let a = bind_is (nodes_of flat.nodes (numbers_of flat)) with_roots scene h in
      let b = bind_is (all_children flat.nodes flat.roots) (λ _. with_helpers a.0) scene a.2 in
      let c = bind_is (all_children flat.nodes flat.helpers) (λ _. limited a.0) scene b.2 in
      let d = bind_is (limits a.0 (called (numbers_of flat).numbers flat.roots)) (λ _. Ok (viewed a.0)) scene c.2 in
      (a.0, scene_ok_is (viewed a.0) scene d.2)

all_marked : (count n : ℕ) → n < count → slice_index_or (replicate count true) n false ≡ true
all_marked zero n l = absurd (omega (arith, l))
all_marked (suc count) zero l = refl
all_marked (suc count) (suc n) l = all_marked count n (omega (arith, l))

abbrev number_by : List Bool → List ℕ → ℕ → Option ℕ
number_by opened numbers n = if slice_index_or opened n false then slice_get numbers n else None

abbrev number_in : Numbering → ℕ → Option ℕ
number_in x n = number_by x.opened x.numbers n

pub numbers_are : (flat : Flat) (scene : SceneView) → scene_of flat ≡ Ok scene → numbers_of flat ≡ in_place (length flat.nodes) → length scene.nodes ≡ length flat.nodes
    → (n : ℕ) → n < length scene.nodes → number_of scene n ≡ Some n
numbers_are flat scene h placed many n l =
    let v = viewed_is flat scene h in
    let low : n < length flat.nodes = omega (arith, many, l) in
    let here : 0 + n ≡ n = omega arith in
    ap (λ (x : SceneView). number_by x.opened x.numbers n) (sym v.1)
    ∙ (ap (λ (x : Numbering). number_in x n) placed
    ∙ (ap (λ (b : Bool). if b then slice_get (range_with_len 0 (length flat.nodes)) n else None) (all_marked (length flat.nodes) n low)
    ∙ (range_at 0 (length flat.nodes) n low ∙ ap (λ (k : ℕ). Some k) here)))
