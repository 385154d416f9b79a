use Rattle.app_logs.proofs.Again.{job_again, made_front}
use Rattle.share_law.specs.Host.{new_host}
use Rattle.app_logs.proofs.laws.logs_run_again.Goals as goal

pub returns-clause-job : goal.returns-clause-job
returns-clause-job c = job_again

pub returns-clause-first : goal.returns-clause-first
returns-clause-first c = λ viewers n entries log. made_front (new_host viewers) log.0 n entries log.1
