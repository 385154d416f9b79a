use Rattle.share_welcomes.proofs.Boots.{copied}
use Rattle.share_welcomes.proofs.learned.boots_of.Goals as goal

pub loop-place-preserved : goal.loop-place-preserved
loop-place-preserved c = copied c.args.kept.now _ _ c.loop-place.place c.requires c.loop-place-test.true c.loop-place.invariant
