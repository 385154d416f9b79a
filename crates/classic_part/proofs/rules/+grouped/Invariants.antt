use Rattle.std.proofs.Common.{length}
use Rattle.classic_part.proofs.rules.+grouped.Given as goal

abbrev pub decreases-grouped : goal.decreases-grouped
decreases-grouped l = length l.rows.now
