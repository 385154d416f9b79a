use Rattle.share_pending.proofs.Offers.{kept-next}
use Rattle.share_pending.proofs.kept.keep_all.Goals as goal

pub loop-entry-preserved : goal.loop-entry-preserved
loop-entry-preserved c =
    let l = c.loop-entry in
    kept-next c.args.kept.now.items l.kept.items c.keep_one.new.kept.items c.args.entries.now l.entry-index c.entry-item.result c.source.result
    c.loop-entry-test.true c.entry-item.is c.source.ensures l.invariant c.keep_one.ensures
