-- Turns of a host, one after another.
use Rattle.std.proofs.Common.{◌≡◌, ℕ, suc, ◌+◌, ◌≤◌, true, false, subst, inl, inr, arith}
use Rattle.std.specs.Prelude.{List, ℤ, Result, Ok, Err, IfErr, OnOk, is_none, slice_get}
use Rattle.share_law.specs.Parts.{HostPart}
use Rattle.share_turns.specs.Told.{Passed}
use Rattle.share_turns.specs.declared.attendance.Attendance.{Attendance}
use Rattle.share_turns.specs.declared.fault.SeriesFault.{SeriesFault}
use Rattle.share_turns.specs.declared.fault.SeriesFault.TheVariants as series
use Rattle.share_turns.specs.declared.runs.HostPlan.{HostPlan}
use Rattle.share_turns.specs.Runs.{AreHosted, HostTurns, Hosting, IsHostEnd, IsKeptTurn, hosting, is_over}
use Rattle.share_turns.specs.Views.{failures_in}

-- one turn more
pub hosted_more : (mark : List ℕ) (clocks : List ℤ) (plan : HostPlan) (n : ℕ) (a b c : Passed) (old : HostPart) (mid new : Hosting)
    → HostTurns mark clocks plan n a b old mid → is_over plan mid ≡ false → IsKeptTurn mark plan.keep (slice_get clocks n) b c mid new
    → HostTurns mark clocks plan (n + 1) a c old new
hosted_more mark clocks plan n a b c old mid new turns going turn =
    let next : suc n ≡ n + 1 = omega arith in
    subst (λ k. HostTurns mark clocks plan k a c old new) next (b, mid, turns, going, turn)

-- it was over before the turns were used up
pub hosted_over : (mark : List ℕ) (clocks : List ℤ) (plan : HostPlan) (n turns : ℕ) (a b : Passed) (old new : HostPart) (attendance : Attendance)
    → n ≤ turns → HostTurns mark clocks plan n a b old (hosting new attendance) → is_over plan (hosting new attendance) ≡ true → AreHosted mark clocks plan turns a b old new
hosted_over mark clocks plan n turns a b old new attendance few turned over =
    record { done = n; most = few; attendance = attendance; turned = turned; over = inl over }

-- they were used up
pub hosted_all : (result : Result (Unit {0}) SeriesFault) (mark : List ℕ) (clocks : List ℤ) (plan : HostPlan) (n turns : ℕ) (a b : Passed) (old new : HostPart) (attendance : Attendance)
    → n ≡ turns → HostTurns mark clocks plan n a b old (hosting new attendance) → OnOk result (is_none plan.until ≡ true) → OnOk result (AreHosted mark clocks plan turns a b old new)
hosted_all (Ok x) mark clocks plan n turns a b old new attendance all turned none =
    record { done = n; most = omega (arith, all); attendance = attendance; turned = turned; over = inr (none, all) }
hosted_all (Err fault) mark clocks plan n turns a b old new attendance all turned none = tt

pub hosted_in_vain : (result : Result (Unit {0}) SeriesFault) (mark : List ℕ) (clocks : List ℤ) (plan : HostPlan) (n turns : ℕ) (a b : Passed) (old new : HostPart) (attendance : Attendance)
    → n ≡ turns → HostTurns mark clocks plan n a b old (hosting new attendance) → is_over plan (hosting new attendance) ≡ false
    → IfErr result (λ fault. (fault ≡ series.TurnsUsedUp) × (is_none plan.until ≡ false)) → IfErr result (λ fault. IsHostEnd mark clocks plan turns a b old fault new)
hosted_in_vain (Ok x) mark clocks plan n turns a b old new attendance all turned going err = tt
hosted_in_vain (Err series.TurnsUsedUp) mark clocks plan n turns a b old new attendance all turned going err =
    record { attendance = attendance; turned = rw (← all) turned; wanted = err.1; going = going }
hosted_in_vain (Err (series.Turn fault)) mark clocks plan n turns a b old new attendance all turned going err = absurd (cc)
hosted_in_vain (Err (series.Join fault)) mark clocks plan n turns a b old new attendance all turned going err = absurd (cc)

pub none_failed : (result : Result (Unit {0}) SeriesFault) (plan : HostPlan) (n m : ℕ)
    → IfErr result (λ fault. (fault ≡ series.TurnsUsedUp) × (is_none plan.until ≡ false)) → m ≡ n → m ≡ failures_in result n
none_failed (Ok x) plan n m err same = same
none_failed (Err series.TurnsUsedUp) plan n m err same = same
none_failed (Err (series.Turn fault)) plan n m err same = absurd (cc)
none_failed (Err (series.Join fault)) plan n m err same = absurd (cc)
