use Rattle.std.proofs.Common.{rules}
use Rattle.snapshot_core.proofs.KeptRows.{kept-done, kept-more}
use Rattle.snapshot_core.proofs.kept.list_kept.Goals as goal

pub loop-number-preserved : goal.loop-number-preserved
loop-number-preserved c =
    kept-more c.args.scene.now c.args.node c.node_type-node_type.result c.loop-number.number c.loop-number.kept.items c.push_kept.new.kept.items _ c.requires (search rules) c.loop-number.invariant

pub returns : goal.returns
returns c =
    kept-done c.args.scene.now c.args.node c.node_type-node_type.result c.loop-number.number c.field_count-number-end.result c.loop-number.kept.items c.requires c.node_type-node_type.ensures
    c.loop-number-test.false c.field_count-number-end.ensures.is c.loop-number.invariant
