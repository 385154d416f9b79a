use Rattle.share_runs.proofs.hello.+receive_welcome.Given as goal

abbrev pub decreases-receive_welcome : goal.decreases-receive_welcome
decreases-receive_welcome g l = l.most
