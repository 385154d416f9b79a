-- What is picked out of a list of boxes is its nearest hit.
use Rattle.std.proofs.Common.{◌≡◌, Bool, true, false, List, [], ◌∷◌, refl, Option, Some, None, MatchOption, if◌then◌else◌, arith}
use Rattle.std.specs.List.{fold}
use Rattle.x3d_values.specs.declared.fields.Fields.{Fields}
use Rattle.x3d_values.specs.Pointing.{RayView}
use Rattle.scene_core.specs.Scene.{SceneView}
use Rattle.pick_core.specs.Boxes.{Placed, boxes}
use Rattle.pick_rules.specs.Entry.{entry_of}
use Rattle.pick_rules.specs.Hits.{IsMissed, IsEntered}
use Rattle.pick_core.specs.Nearest.{IsPicked}
use Rattle.pick_core.specs.Picked.{is_nearer, hit_at, closer, nearer, picked}
use Rattle.pick_rules.specs.declared.bounds.Fraction.{Fraction}
use Rattle.pick_core.specs.declared.hit.Hit.{Hit}
use Rattle.pick_rules.proofs.Entering.{entry-is}
use Rattle.pick_core.proofs.Order.{order-boxes}
use Rattle.pick_core.proofs.Picking.{Continues, IsNearer, continues-none, continues-append, continues-missed, continues-behind, continues-nearer, picked-all}

nearer-true : (at : Fraction) (old : Option Hit) → is_nearer at old ≡ true → IsNearer at old
nearer-true at None e = tt
nearer-true at (Some hit) e = grind arith

nearer-false : (at : Fraction) (old : Option Hit) → is_nearer at old ≡ false → ¬ IsNearer at old
nearer-false at None e k = absurd (cc)
nearer-false at (Some hit) e k = grind arith

picks-one : (ray : RayView) (b : Placed) (old : Option Hit) → Continues ray (b ∷ []) old (nearer ray old b)
unfolding nearer
picks-one ray b old = by_entry (entry_of b.bounds ray) (entry-is b.bounds ray)
  where
    by_entry : (e : Option Fraction) → MatchOption e (IsMissed b.bounds ray) (λ (at : Fraction). IsEntered b.bounds ray at.n at.m) → Continues ray (b ∷ []) old (closer b old e)
    by_entry None miss = continues-missed ray b old miss
    by_entry (Some at) first = by_test (is_nearer at old) refl
      where
        by_test : (t : Bool) → is_nearer at old ≡ t → Continues ray (b ∷ []) old (if t then Some (hit_at b at) else old)
        by_test true e = continues-nearer ray b (hit_at b at) old refl first (nearer-true at old e)
        by_test false e = continues-behind ray b at old first (nearer-false at old e)

picks-all : (ray : RayView) (bs : List Placed) (old : Option Hit) → Continues ray bs old (fold (nearer ray) old bs)
picks-all ray [] old = continues-none ray old
picks-all ray (b ∷ bs) old =
    continues-append ray (b ∷ []) bs old (nearer ray old b) (fold (nearer ray) (nearer ray old b) bs) (picks-one ray b old) (picks-all ray bs (nearer ray old b))

-- what is picked out of a scene's boxes is the nearest
pub picks-nearest : (scene : SceneView) (state : List Fields) (ray : RayView) → IsPicked ray (boxes scene state) (picked ray (boxes scene state))
picks-nearest scene state ray =
    picked-all ray (boxes scene state) (picked ray (boxes scene state)) (order-boxes scene state) (picks-all ray (boxes scene state) None)
