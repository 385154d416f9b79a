use Rattle.std.proofs.Common.{◌-◌}
use Rattle.share_sealed.proofs.keyed.KeyedPort.+receive_next.Given as goal

abbrev pub decreases-receive_next : goal.decreases-receive_next
decreases-receive_next g l = 63 - l.self.now.wrongs.row
