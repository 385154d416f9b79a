use Rattle.share_runs.proofs.hello.+await_welcome.Given as goal

abbrev pub decreases-await_welcome : goal.decreases-await_welcome
decreases-await_welcome g l = l.waits
