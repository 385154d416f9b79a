use Rattle.std.proofs.Common.{length}
use Rattle.share_turns.proofs.rounds.+are_at.Given as goal

abbrev pub decreases-are_at : goal.decreases-are_at
decreases-are_at g l = length l.viewers.now
