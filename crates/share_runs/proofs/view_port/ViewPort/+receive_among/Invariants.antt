use Rattle.share_runs.proofs.view_port.ViewPort.+receive_among.Given as goal

abbrev pub decreases-receive_among : goal.decreases-receive_among
decreases-receive_among g l = l.most
