use Rattle.std.proofs.Common.{◌∙◌, sym}
use Rattle.cascade_core.proofs.Steps.{range_ended}
use Rattle.cascade_core.proofs.Walks.{range_next}
use Rattle.cascade_core.proofs.pressed.push_some.Goals as goal

pub loop-node-preserved : goal.loop-node-preserved
loop-node-preserved c = range_next _ _ _ c.loop-node.node _ _ c.loop-node-test.true c.in_ok-push_pressed.ensures c.loop-node.invariant

pub returns : goal.returns
returns c =
    sym (range_ended _ _ c.loop-node.node _ c.loop-node-test.false) ∙ c.loop-node.invariant
