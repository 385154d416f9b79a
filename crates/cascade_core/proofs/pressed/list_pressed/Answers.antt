use Rattle.std.proofs.Common.{◌∙◌}
use Rattle.cascade_world.specs.Pointer.{tracking}
use Rattle.cascade_core.proofs.Walks.{block_next, blocks_ended, pressed-are}
use Rattle.cascade_core.proofs.pressed.list_pressed.Goals as goal

pub loop-block-preserved : goal.loop-block-preserved
loop-block-preserved c = block_next _ _ _ c.loop-block.block _ _ c.in_ok-push_block.ensures c.loop-block.invariant

pub returns : goal.returns
returns c =
    blocks_ended _ _ c.loop-block.block _ c.loop-block-test.false ∙ c.loop-block.invariant
    ∙ pressed-are (tracking c.args.scene.now c.args.world.now c.args.pointer) c.args.world.now c.args.scene.now.nodes c.args.pointer.who _ c.in_ok-count.ensures.ok
