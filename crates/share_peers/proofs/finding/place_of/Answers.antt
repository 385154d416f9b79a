use Rattle.std.proofs.Common.{rules}
use Rattle.share_peers.proofs.Tables.{not_at, nowhere}
use Rattle.share_peers.proofs.finding.place_of.Goals as goal

pub loop-place-preserved : goal.loop-place-preserved
loop-place-preserved c = not_at _ _ _ c.loop-place.invariant (search rules)

pub returns-clause-none : goal.returns-clause-none
returns-clause-none c = nowhere _ _ _ (search rules) c.loop-place.invariant
