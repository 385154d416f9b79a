use Rattle.app_jobs.proofs.JobOnly as job
use Rattle.app_jobs.proofs.OnlyLemmas.{one_step, only}
use Rattle.app_jobs.proofs.laws.lines_are_one_step.Goals as goal

pub returns-clause-step : goal.returns-clause-step
returns-clause-step c = one_step

pub returns-clause-schedule : goal.returns-clause-schedule
returns-clause-schedule c = only

pub returns-clause-job_step : goal.returns-clause-job_step
returns-clause-job_step c = job.one_step

pub returns-clause-job : goal.returns-clause-job
returns-clause-job c = job.only
