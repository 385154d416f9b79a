-- What the limits of a scene say.
use Rattle.std.proofs.Common.{◌≡◌, ℕ, Bool, true, false, List, refl, subst}
use Rattle.std.specs.Prelude.{Result, Ok, Err, ◌||◌, nat_lt, if◌then◌else◌}
use Rattle.std.proofs.lemmas.Bool.{or_parts}
use Rattle.proto_flat.specs.declared.flat.Flat.{Flat}
use Rattle.x3d_values.specs.Ranges.{max_depth, max_places}
use Rattle.scene_core.specs.declared.fault.SceneFault.{SceneFault}
use Rattle.scene_core.specs.declared.fault.SceneFaultKind.TheVariants.{TooMany}
use Rattle.scene_core.specs.declared.numbering.Numbering.{Numbering}
use Rattle.scene_core.specs.declared.scene.SceneNode.{SceneNode}
use Rattle.scene_core.specs.Building.{IsLimited, limits}
use Rattle.scene_core.specs.Checked.{check, checked_nodes}
use Rattle.scene_core.specs.Deep.{too_deep}
use Rattle.scene_core.specs.Faults.{fault, ◌>>=◌}
use Rattle.scene_core.specs.Places.{any_crowded, places}
use Rattle.scene_core.specs.Typed.{all_children}
use Rattle.scene_core.specs.Wide.{any_wide}

abbrev good : Result (Unit {0}) SceneFault
good = Ok tt

unless : (b : Bool) (e : SceneFault) (r : Result (Unit {0}) SceneFault) → (if b then Err e else r) ≡ good → (b ≡ false) × (r ≡ good)
unless true e r h = absurd cc
unless false e r h = (refl, h)

module _ (nodes : List SceneNode) (roots : List ℕ) (h : IsLimited nodes roots) where
  crowds : (any_crowded nodes roots || any_wide nodes) ≡ false
  unfolding limits
  crowds =
      let b : Bool = nat_lt max_places (places max_depth nodes roots) || (any_crowded nodes roots || any_wide nodes) in
      let few = (unless b (fault TooMany 0) good (unless (too_deep nodes) _ (if b then Err (fault TooMany 0) else good) h).1).0 in
      (or_parts (nat_lt max_places (places max_depth nodes roots)) (any_crowded nodes roots || any_wide nodes) few).1

  pub uncrowded : any_crowded nodes roots ≡ false
  uncrowded = (or_parts (any_crowded nodes roots) (any_wide nodes) crowds).0

  pub numbered : any_wide nodes ≡ false
  numbered = (or_parts (any_crowded nodes roots) (any_wide nodes) crowds).1

-- ---- nodes that were checked

then_good : {A : Type 0} (r : Result A SceneFault) (k : A → Result (Unit {0}) SceneFault) → (r >>= k) ≡ good → (a : A) × (k a ≡ good)
then_good (Ok a) k h = (a, h)
then_good (Err e) k h = absurd cc

then_same : (r : Result (Unit {0}) SceneFault) (nodes found : List SceneNode) → (r >>= λ _. Ok nodes) ≡ Ok found → (r ≡ good) × (nodes ≡ found)
then_same (Ok tt) nodes found h = (refl, cc)
then_same (Err e) nodes found h = absurd cc

then_found : (r : Result (List SceneNode) SceneFault) (k : List SceneNode → Result (Unit {0}) SceneFault) (found : List SceneNode)
    → (r >>= λ nodes. k nodes >>= λ _. Ok nodes) ≡ Ok found → k found ≡ good
then_found (Err e) k found h = absurd cc
then_found (Ok nodes) k found h = let s = then_same (k nodes) nodes found h in subst (λ ns. k ns ≡ good) s.1 s.0

pub checked_limits : (flat : Flat) (s : Numbering) (roots : List ℕ) (found : List SceneNode) → checked_nodes flat s roots ≡ Ok found → IsLimited found roots
checked_limits flat s roots found h =
    let c : check flat found roots ≡ good = then_found _ (λ nodes. check flat nodes roots) found h in
    let a = then_good (all_children flat.nodes flat.roots) (λ _. all_children flat.nodes flat.helpers >>= λ _. limits found roots) c in
    (then_good (all_children flat.nodes flat.helpers) (λ _. limits found roots) a.1).1
