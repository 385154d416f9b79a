-- What a scene was made of, by steps that may fail.
use Rattle.std.proofs.Common.{◌≡◌, List, [], ◌∷◌, Result, Ok, Err, refl, subst}
use Rattle.proto_flat.specs.declared.flat.Flat.{Flat}
use Rattle.scene_core.specs.declared.fault.SceneFault.{SceneFault}
use Rattle.scene_core.specs.declared.numbering.Numbering.{Numbering}
use Rattle.scene_core.specs.declared.scene.SceneNode.{SceneNode}
use Rattle.scene_core.specs.Building.{nodes_of, limits, called, scene_of}
use Rattle.scene_core.specs.Faults.{◌>>=◌, through}
use Rattle.scene_core.specs.Numbers.{numbering}
use Rattle.scene_core.specs.Scene.{SceneView}
use Rattle.scene_core.specs.Typed.{all_children}

abbrev ok : {A : Type 0} → A → Result A SceneFault
ok x = Ok x

pub ok_is : {A : Type 0} (x y : A) → ok x ≡ ok y → x ≡ y
ok_is x y e = cc

pub bind_is : {A B : Type 0} (r : Result A SceneFault) (k : A → Result B SceneFault) (b : B) → (r >>= k) ≡ Ok b → (a : A) × (r ≡ Ok a) × (k a ≡ Ok b)
bind_is (Err e) k b h = absurd cc
bind_is (Ok a) k b h = (a, refl, h)

-- what each step keeps, all of them keep
pub through_keeps : {A X : Type 0} (P : X → Type 0) (step : A → X → Result X SceneFault) → ((a : A) (x y : X) → step a x ≡ Ok y → P x → P y)
    → (items : List A) (x y : X) → through step items x ≡ Ok y → P x → P y
through_keeps P step k [] x y h p = subst P (ok_is x y h) p
through_keeps P step k (a ∷ items) x y h p =
    let b = bind_is (step a x) (λ more. through step items more) y h in
    through_keeps P step k items b.0 y b.2 (k a x b.0 b.1 p)

-- ---- a scene

abbrev pub numbers_of : Flat → Numbering
numbers_of flat = numbering flat.nodes flat.roots flat.helpers

abbrev viewed : Flat → Numbering → List SceneNode → SceneView
viewed flat s nodes = record {
  header = flat.header;
  nodes = nodes;
  roots = called s.numbers flat.roots;
  helpers = called s.numbers flat.helpers;
  opened = s.opened;
  numbers = s.numbers;
}

abbrev limited : Flat → Numbering → List SceneNode → Result SceneView SceneFault
limited flat s nodes = limits nodes (called s.numbers flat.roots) >>= λ _. Ok (viewed flat s nodes)

abbrev with_helpers : Flat → Numbering → List SceneNode → Result SceneView SceneFault
with_helpers flat s nodes = all_children flat.nodes flat.helpers >>= λ _. limited flat s nodes

abbrev with_roots : Flat → Numbering → List SceneNode → Result SceneView SceneFault
with_roots flat s nodes = all_children flat.nodes flat.roots >>= λ _. with_helpers flat s nodes

-- its nodes, within the limits
pub record IsSceneOf (flat : Flat) (scene : SceneView) : Type 0 where
  pub nodes : List SceneNode
  pub made : nodes_of flat.nodes (numbers_of flat) ≡ Ok nodes
  pub roots : all_children flat.nodes flat.roots ≡ Ok tt
  pub helpers : all_children flat.nodes flat.helpers ≡ Ok tt
  pub within : limits nodes (called (numbers_of flat).numbers flat.roots) ≡ Ok tt
  pub is : viewed flat (numbers_of flat) nodes ≡ scene

pub scene_is : (flat : Flat) (scene : SceneView) → scene_of flat ≡ Ok scene → IsSceneOf flat scene
unfolding scene_of
scene_is flat scene h =
    let s : Numbering = numbers_of flat in
    let a = bind_is (nodes_of flat.nodes s) (with_roots flat s) scene h in
    let b = bind_is (all_children flat.nodes flat.roots) (λ _. with_helpers flat s a.0) scene a.2 in
    let c = bind_is (all_children flat.nodes flat.helpers) (λ _. limited flat s a.0) scene b.2 in
    let d = bind_is (limits a.0 (called s.numbers flat.roots)) (λ _. Ok (viewed flat s a.0)) scene c.2 in
    record { nodes = a.0; made = a.1; roots = b.1; helpers = c.1; within = d.1; is = ok_is (viewed flat s a.0) scene d.2 }
