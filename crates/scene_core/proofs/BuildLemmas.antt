-- A scene by its parts.
use Rattle.std.proofs.Common.{◌≡◌, ◌⊎◌, inl, inr, ℕ, List, refl, ap, sym, ◌∙◌}
use Rattle.std.specs.Prelude.{Result, Ok, Err}
use Rattle.proto_flat.specs.declared.flat.Flat.{Flat}
use Rattle.proto_flat.specs.declared.flat.FlatNode.{FlatNode}
use Rattle.scene_core.specs.declared.build.Surroundings.{Surroundings}
use Rattle.scene_core.specs.declared.fault.SceneFault.{SceneFault}
use Rattle.scene_core.specs.declared.numbering.Numbering.{Numbering}
use Rattle.scene_core.specs.declared.scene.SceneNode.{SceneNode}
use Rattle.scene_core.specs.Building.{called, limits, nodes_of, scene_by, scene_of}
use Rattle.scene_core.specs.Checked.{checked_nodes}
use Rattle.scene_core.specs.Faults.{memory, ◌>>=◌}
use Rattle.scene_core.specs.Numbers.{numbering}
use Rattle.scene_core.specs.Scene.{SceneView}
use Rattle.scene_core.specs.Typed.{all_children}

last : {N X : Type 0} (l : Result (Unit {0}) SceneFault) (n : N) (k : N → Result X SceneFault) → (l >>= λ _. k n) ≡ ((l >>= λ _. Ok n) >>= k)
last (Ok u) n k = refl
last (Err e) n k = refl

checks : {N X : Type 0} (a b l : Result (Unit {0}) SceneFault) (n : N) (k : N → Result X SceneFault)
    → (a >>= λ _. b >>= λ _. l >>= λ _. k n) ≡ (((a >>= λ _. b >>= λ _. l) >>= λ _. Ok n) >>= k)
checks (Err e) b l n k = refl
checks (Ok u) (Err e) l n k = refl
checks (Ok u) (Ok v) l n k = last l n k

together : {N X : Type 0} (o : Result N SceneFault) (a b : Result (Unit {0}) SceneFault) (l : N → Result (Unit {0}) SceneFault) (k : N → Result X SceneFault)
    → (o >>= λ n. a >>= λ _. b >>= λ _. l n >>= λ _. k n) ≡ ((o >>= λ n. (a >>= λ _. b >>= λ _. l n) >>= λ _. Ok n) >>= k)
together (Err e) a b l k = refl
together (Ok n) a b l k = checks a b (l n) n k

abbrev pub scene_with : Flat → Numbering → List SceneNode → SceneView
scene_with flat s nodes = record {
  header = flat.header;
  nodes = nodes;
  roots = called s.numbers flat.roots;
  helpers = called s.numbers flat.helpers;
  opened = s.opened;
  numbers = s.numbers;
}

module _ (flat : Flat) (s : Numbering) where
  by_nodes : scene_by flat s ≡ (checked_nodes flat s (called s.numbers flat.roots) >>= λ nodes. Ok (scene_with flat s nodes))
  by_nodes =
      together (nodes_of flat.nodes s) (all_children flat.nodes flat.roots) (all_children flat.nodes flat.helpers) (λ nodes. limits nodes (called s.numbers flat.roots))
      (λ nodes. Ok (scene_with flat s nodes))

  scene-made : (roots : List ℕ) (nodes : List SceneNode) → roots ≡ called s.numbers flat.roots → checked_nodes flat s roots ≡ Ok nodes → scene_by flat s ≡ Ok (scene_with flat s nodes)
  scene-made roots nodes is e = by_nodes ∙ ap (λ r. checked_nodes flat s r >>= λ n. Ok (scene_with flat s n)) (sym is) ∙ ap (λ o. o >>= λ n. Ok (scene_with flat s n)) e

  scene-refused : (roots : List ℕ) (e : SceneFault) → roots ≡ called s.numbers flat.roots → checked_nodes flat s roots ≡ Err e → scene_by flat s ≡ Err e
  scene-refused roots e is h = by_nodes ∙ ap (λ r. checked_nodes flat s r >>= λ n. Ok (scene_with flat s n)) (sym is) ∙ ap (λ o. o >>= λ n. Ok (scene_with flat s n)) h

abbrev pub frame_by : Flat → List ℕ → Surroundings
frame_by flat numbers = record { header = flat.header; roots = called numbers flat.roots; helpers = called numbers flat.helpers }

-- ---- by what the calls answered

module _ (flat : Flat) (s : Numbering) (frame : Surroundings) (nodes : List FlatNode) (roots helpers numbers called_roots : List ℕ) (are_nodes : nodes ≡ flat.nodes) (are_roots : roots ≡ flat.roots)
    (are_helpers : helpers ≡ flat.helpers) (same : s ≡ numbering nodes roots helpers) (are_numbers : numbers ≡ s.numbers) (is_frame : frame ≡ frame_by flat numbers) (are_called : called_roots ≡ frame.roots) where
  numbered : scene_of flat ≡ scene_by flat s
  unfolding scene_of
  numbered =
      ap (scene_by flat)
      (sym (same ∙ ap (λ ns. numbering ns roots helpers) are_nodes ∙ ap (λ ns. numbering flat.nodes ns helpers) are_roots ∙ ap (λ ns. numbering flat.nodes flat.roots ns) are_helpers))

  framed : frame ≡ frame_by flat s.numbers
  framed = is_frame ∙ ap (frame_by flat) are_numbers

  named : called_roots ≡ called s.numbers flat.roots
  named = are_called ∙ ap (λ (f : Surroundings). f.roots) framed

  pub scene-found : (found : List SceneNode) → checked_nodes flat s called_roots ≡ Ok found
      → scene_of flat ≡ Ok (record { header = frame.header; nodes = found; roots = frame.roots; helpers = frame.helpers; opened = s.opened; numbers = s.numbers })
  scene-found found e =
      numbered ∙ scene-made flat s called_roots found named e
      ∙ ap (λ (f : Surroundings). Ok (record { header = f.header; nodes = found; roots = f.roots; helpers = f.helpers; opened = s.opened; numbers = s.numbers })) (sym framed)

  pub scene-fault : (e : SceneFault) → (e ≡ memory) ⊎ (checked_nodes flat s called_roots ≡ Err e) → (e ≡ memory) ⊎ (scene_of flat ≡ Err e)
  scene-fault e (inl m) = inl m
  scene-fault e (inr h) = inr (numbered ∙ scene-refused flat s called_roots e named h)
