use Rattle.std.proofs.Common.{length}
use Rattle.share_turns.proofs.heard.+lowest.Given as goal

abbrev pub decreases-lowest : goal.decreases-lowest
decreases-lowest l = length l.nexts.now
