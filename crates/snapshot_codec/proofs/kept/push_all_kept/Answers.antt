use Rattle.std.proofs.Common.{take}
use Rattle.std.specs.List.{flat_map}
use Rattle.snapshot_codec.specs.Fields.{kept_text}
use Rattle.snapshot_codec.proofs.Appends.{grown, one_more, onward}
use Rattle.snapshot_codec.proofs.kept.push_all_kept.Goals as goal

pub returns-in_err-push_kept-clause-kept : goal.returns-in_err-push_kept-clause-kept
returns-in_err-push_kept-clause-kept c = onward c.args.out.now.items (flat_map kept_text (take c.loop-value.value-index c.args.values.now)) c.loop-value.out.items _ c.loop-value.invariant c.in_err-push_kept.ensures.kept

pub loop-value-preserved : goal.loop-value-preserved
loop-value-preserved c = one_more kept_text c.args.values.now c.loop-value.value-index c.value-item.result c.args.out.now.items c.loop-value.out.items _ c.loop-value-test.true c.value-item.is c.loop-value.invariant c.in_ok-push_kept.ensures.ok

pub returns-clause-kept : goal.returns-clause-kept
returns-clause-kept c = grown c.args.out.now.items c.loop-value.out.items (flat_map kept_text (take c.loop-value.value-index c.args.values.now)) c.loop-value.invariant
