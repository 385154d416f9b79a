use Rattle.std.proofs.Common.{rules}
use Rattle.share_peers.proofs.Tables.{kept_more, round}
use Rattle.share_peers.proofs.finding.free_place.Goals as goal

pub loop-step-preserved : goal.loop-step-preserved
loop-step-preserved c = kept_more _ _ _ _ c.loop-step.invariant (search rules)

pub returns-clause-none : goal.returns-clause-none
returns-clause-none c = round _ _ _ _ (search rules) (search rules) c.loop-step.invariant
