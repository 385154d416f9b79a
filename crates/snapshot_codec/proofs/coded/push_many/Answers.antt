use Rattle.std.proofs.Common.{take}
use Rattle.std.specs.List.{flat_map}
use Rattle.snapshot_codec.proofs.Appends.{grown, one_more, onward}
use Rattle.snapshot_codec.proofs.coded.push_many.Goals as goal

pub returns-in_err-push_to-clause-kept : goal.returns-in_err-push_to-clause-kept
returns-in_err-push_to-clause-kept g c = onward c.args.out.now.items (flat_map g.T.Coded.codec.write (take c.loop-item.item-index c.args.items.now)) c.loop-item.out.items _ c.loop-item.invariant c.in_err-push_to.ensures.kept

pub loop-item-preserved : goal.loop-item-preserved
loop-item-preserved g c = one_more g.T.Coded.codec.write c.args.items.now c.loop-item.item-index c.item-item.result c.args.out.now.items c.loop-item.out.items _ c.loop-item-test.true c.item-item.is c.loop-item.invariant c.in_ok-push_to.ensures.ok

pub returns-clause-kept : goal.returns-clause-kept
returns-clause-kept g c = grown c.args.out.now.items c.loop-item.out.items (flat_map g.T.Coded.codec.write (take c.loop-item.item-index c.args.items.now)) c.loop-item.invariant
