use Rattle.std.proofs.Common.{length}
use Rattle.share_turns.proofs.attendance.+lowest_counted.Given as goal

abbrev pub decreases-lowest_counted : goal.decreases-lowest_counted
decreases-lowest_counted l = length l.lasts.now
