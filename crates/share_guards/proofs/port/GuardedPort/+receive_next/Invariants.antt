use Rattle.share_guards.proofs.port.GuardedPort.+receive_next.Given as goal

abbrev pub decreases-receive_next : goal.decreases-receive_next
decreases-receive_next g l = l.left
