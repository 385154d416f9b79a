use Rattle.std.proofs.Common.{length}
use Rattle.app_jobs.proofs.ScheduleLemmas.{IsLeft}
use Rattle.app_jobs.proofs.schedule.schedule_of.Given as goal

abbrev pub invariant-loop-rest : goal.invariant-loop-rest
invariant-loop-rest l = IsLeft l.bytes l.steps l.rest

abbrev pub decreases-loop-rest : goal.decreases-loop-rest
decreases-loop-rest l = length l.rest
