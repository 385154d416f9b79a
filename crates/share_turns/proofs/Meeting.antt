-- Rounds, one after another.
use Rattle.std.proofs.Common.{◌≡◌, ℕ, suc, ◌+◌, ◌<◌, Bool, false, List, ap, sym, ◌∙◌, subst, arith}
use Rattle.std.specs.Prelude.{◌==◌, ◌&&◌, ◌||◌, length, Option, None, Ok, slice_get, if◌then◌else◌}
use Rattle.x3d_values.specs.Stamp.{StampedView}
use Rattle.share_turns.specs.declared.fault.TurnFault.{TurnFault}
use Rattle.share_turns.specs.Seats.{IsSeatTurn, SeatTurns, Seats, Ways}
use Rattle.share_turns.specs.Round.{IsRoundEnd, IsRoundOf, Meeting}
use Rattle.share_turns.specs.Agreeing.{AreCut, Rounds, due, is_over, is_caught_up}
use Rattle.share_turns.specs.Views.{one_more_if}

-- the step that a round was made with is the one that is due
due_is : {P : Type 0} (steps : List StampedView) (issued : ℕ) (m : Meeting P) (caught_up : Bool) (step : Option StampedView)
    → caught_up ≡ is_caught_up issued m → step ≡ (if caught_up then slice_get steps issued else None) → step ≡ due steps issued m
due_is steps issued m caught_up step is e = e ∙ ap (λ (s : Bool). if s then slice_get steps issued else None) is

-- it isn't over
pub goes_on : {P : Type 0} (steps : List StampedView) (issued : ℕ) (m : Meeting P) (caught_up over : Bool)
    → caught_up ≡ is_caught_up issued m → over ≡ (caught_up && (issued == length steps)) → over ≡ false → is_over steps issued m ≡ false
goes_on steps issued m caught_up over is e ended = sym (e ∙ ap (λ (s : Bool). s && (issued == length steps)) is) ∙ ended

pub one_more_seat : {P : Type 0} (ways : Ways P) (step : Option StampedView) (host n : ℕ) (old mid new : Seats P) (before did offered : Bool)
    → SeatTurns ways step host n old before mid → IsSeatTurn ways step host n mid (Ok did) new → offered ≡ (before || did) → SeatTurns ways step host (n + 1) old offered new
one_more_seat ways step host n old mid new before did offered turns turn is =
    let next : suc n ≡ n + 1 = omega arith in
    subst (λ k. SeatTurns ways step host k old offered new) next (mid, before, did, turns, turn, is)

pub one_more_round : {P : Type 0} (ways : Ways P) (mark host_mark : List ℕ) (steps : List StampedView) (own n : ℕ) (old mid new : Meeting P) (before issued : ℕ)
    (did caught_up : Bool) (step : Option StampedView)
    → Rounds ways mark steps own n old before mid → host_mark ≡ mark → caught_up ≡ is_caught_up before mid
    → step ≡ (if caught_up then slice_get steps before else None)
    → is_over steps before mid ≡ false → IsRoundOf ways host_mark step own mid did new → issued ≡ one_more_if did before
    → Rounds ways mark steps own (n + 1) old issued new
one_more_round ways mark host_mark steps own n old mid new before issued did caught_up step rounds same is stepped going round count =
    let marked = subst (λ (k : List ℕ). IsRoundOf ways k step own mid did new) same round in
    let dued = subst (λ (s : Option StampedView). IsRoundOf ways mark s own mid did new) (due_is steps before mid caught_up step is stepped) marked in
    let next : suc n ≡ n + 1 = omega arith in
    subst (λ k. Rounds ways mark steps own k old issued new) next (mid, before, did, rounds, going, dued, count)

pub cut_round : {P : Type 0} (ways : Ways P) (mark host_mark : List ℕ) (steps : List StampedView) (own rounds n : ℕ) (old mid new : Meeting P) (before : ℕ)
    (fault : TurnFault) (caught_up : Bool) (step : Option StampedView)
    → n < rounds → Rounds ways mark steps own n old before mid → host_mark ≡ mark → caught_up ≡ is_caught_up before mid
    → step ≡ (if caught_up then slice_get steps before else None)
    → is_over steps before mid ≡ false → IsRoundEnd ways host_mark step own mid fault new
    → AreCut ways mark steps own rounds old fault new
cut_round ways mark host_mark steps own rounds n old mid new before fault caught_up step fewer turned same is stepped going end =
    let marked = subst (λ (k : List ℕ). IsRoundEnd ways k step own mid fault new) same end in
    record {
      done = n;
      fewer = fewer;
      mid = mid;
      issued = before;
      turned = turned;
      going = going;
      last = subst (λ (s : Option StampedView). IsRoundEnd ways mark s own mid fault new) (due_is steps before mid caught_up step is stepped) marked;
    }
