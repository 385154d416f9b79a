-- A viewer that has applied an input or made an offer stays in its run.
use Rattle.std.proofs.Common.{◌≡◌, ℕ, Bool, true, false, cond, List, [], ◌∷◌, Option, Some, None, refl, sym, ap, ◌∙◌}
use Rattle.std.specs.Prelude.{◌&&◌, not}
use Rattle.std.specs.Cmp.Lexicographic.{bytes_decides}
use Rattle.share_runs.specs.declared.arrival.Arrival.{Arrival}
use Rattle.share_runs.specs.declared.arrival.ArrivalEvent.{ArrivalEvent}
use Rattle.share_runs.specs.declared.arrival.ArrivalEvent.TheVariants.{Drawn, Passed, Welcomed, Heard, Bound}
use Rattle.share_runs.specs.Arrival.{is_own, in_run, among_others, welcomed, is_taken, after_event, BoundStay}

-- bound, and in the run of m
record Stay (m z : Arrival) : Type 0 where
  pub bound : z.is_bound ≡ true
  pub same : z.run ≡ m.run

either : (m : Arrival) (b : Bool) (x y : Arrival) → (b ≡ true → Stay m x) → (b ≡ false → Stay m y) → Stay m (cond b x y)
either m true x y f g = f refl
either m false x y f g = g refl

own_run : (r : Option (List ℕ)) (run : List ℕ) → is_own r run ≡ true → r ≡ Some run
own_run None run e = absurd cc
own_run (Some own) run e = ap (λ (z : List ℕ). let o : Option (List ℕ) = Some z in o) ((bytes_decides own run).0 e)

is_left : (b own : Bool) → b ≡ true → (b && not own) ≡ false → own ≡ true
is_left true true e f = refl
is_left true false e f = absurd cc
is_left false own e f = absurd cc

after_welcome : (m : Arrival) (run : List ℕ) → m.is_bound ≡ true → Stay m (welcomed m run)
after_welcome m run b =
    either m (m.is_bound && not (is_own m.run run)) (among_others m) (in_run m run)
    (λ _. record { bound = b; same = refl })
    (λ f. record { bound = b; same = sym (own_run m.run run (is_left m.is_bound (is_own m.run run) b f)) })

after : (m : Arrival) (e : ArrivalEvent) → m.is_bound ≡ true → Stay m (after_event m e)
after m (Drawn nonce) b = record { bound = b; same = refl }
after m (Passed millis) b = record { bound = b; same = refl }
after m (Welcomed w) b =
    either m (is_taken m w) (welcomed m w.run) m (λ _. after_welcome m w.run b) (λ _. record { bound = b; same = refl })
after m Heard b = record { bound = b; same = refl }
after m Bound b = record { bound = refl; same = refl }

pub bound_stay : BoundStay
bound_stay m [] b = refl
bound_stay m (e ∷ es) b =
    let a = after m e b in
    bound_stay (after_event m e) es a.bound ∙ a.same
