-- Turns of a host over a log, one after another.
use Rattle.std.proofs.Common.{◌≡◌, ℕ, suc, ◌+◌, ◌≤◌, true, false, List, refl, subst, inl, inr, arith}
use Rattle.std.specs.Prelude.{ℤ, Option, Result, Ok, Err, IfErr, OnOk, is_none}
use Rattle.share_turns.specs.Runs.{is_over}
use Rattle.app_logs.specs.declared.fault.RunFault.{RunFault}
use Rattle.app_logs.specs.declared.fault.RunFault.TheVariants as run
use Rattle.app_logs.specs.declared.hosting.LogPlan.{LogPlan}
use Rattle.app_logs.specs.Hosting.{IsLogRun, IsLogRunEnd, IsTurn, LogTurns, Moment, failures_in}

-- one turn more
pub turned_more : (mark : List ℕ) (clocks : List ℤ) (plan : LogPlan) (n : ℕ) (old mid new : Moment) → LogTurns mark clocks plan n old mid
    → is_over plan.host mid.host ≡ false → IsTurn mark clocks plan n mid new → LogTurns mark clocks plan (n + 1) old new
turned_more mark clocks plan n old mid new turns going turn =
    let next : suc n ≡ n + 1 = omega arith in
    subst (λ k. LogTurns mark clocks plan k old new) next (mid, turns, going, turn)

-- it was over before the turns were used up
pub turned_over : (mark : List ℕ) (clocks : List ℤ) (plan : LogPlan) (n : ℕ) (old new : Moment) → n ≤ plan.turns
    → LogTurns mark clocks plan n old new → is_over plan.host new.host ≡ true
    → IsLogRun mark clocks plan old new.stored new.clean new.passed
turned_over mark clocks plan n old new few turned over = record {
  done = n;
  most = few;
  new = new;
  turned = turned;
  over = inl over;
  stored_is = refl;
  clean_is = refl;
  passed_is = refl;
}

-- they were used up
pub turned_all : (result : Result (Unit {0}) RunFault) (mark : List ℕ) (clocks : List ℤ) (plan : LogPlan) (n : ℕ) (old new : Moment)
    → n ≡ plan.turns → LogTurns mark clocks plan n old new → OnOk result (is_none plan.host.until ≡ true)
    → OnOk result (IsLogRun mark clocks plan old new.stored new.clean new.passed)
turned_all (Ok x) mark clocks plan n old new all turned none = record {
  done = n;
  most = omega (arith, all);
  new = new;
  turned = turned;
  over = inr (none, all);
  stored_is = refl;
  clean_is = refl;
  passed_is = refl;
}
turned_all (Err fault) mark clocks plan n old new all turned none = tt

pub turned_in_vain : (result : Result (Unit {0}) RunFault) (mark : List ℕ) (clocks : List ℤ) (plan : LogPlan) (n : ℕ) (old new : Moment)
    → n ≡ plan.turns → LogTurns mark clocks plan n old new → is_over plan.host new.host ≡ false
    → IfErr result (λ fault. (fault ≡ run.TurnsUsedUp) × (is_none plan.host.until ≡ false))
    → IfErr result (λ fault. IsLogRunEnd mark clocks plan old fault new.stored new.clean new.passed)
turned_in_vain (Ok x) mark clocks plan n old new all turned going err = tt
turned_in_vain (Err run.TurnsUsedUp) mark clocks plan n old new all turned going err = record {
  new = new;
  turned = rw (← all) turned;
  wanted = err.1;
  going = going;
  stored_is = refl;
  clean_is = refl;
  passed_is = refl;
}
turned_in_vain (Err (run.Turn fault)) mark clocks plan n old new all turned going err = absurd (cc)

pub none_failed : (result : Result (Unit {0}) RunFault) (until : Option ℕ) (n m : ℕ)
    → IfErr result (λ fault. (fault ≡ run.TurnsUsedUp) × (is_none until ≡ false)) → m ≡ n → m ≡ failures_in result n
none_failed (Ok x) until n m err same = same
none_failed (Err run.TurnsUsedUp) until n m err same = same
none_failed (Err (run.Turn fault)) until n m err same = absurd (cc)
