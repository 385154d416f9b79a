use Rattle.std.proofs.Common.{◌∙◌}
use Rattle.cascade_core.specs.Course.{seen}
use Rattle.cascade_core.proofs.Resting.{scripts_then}
use Rattle.cascade_core.proofs.Walks.{block_next, blocks_ended, by-type}
use Rattle.cascade_core.proofs.walk.walk_all.Goals as goal

pub loop-block-preserved : goal.loop-block-preserved
loop-block-preserved g c = record {
  rest = c.in_ok-walk_block.ensures.rest;
  scripts = scripts_then c.loop-block.invariant.scripts c.walk_block.ensures.scripts;
  done = block_next _ _ _ c.loop-block.block _ _ c.in_ok-walk_block.ensures.course c.loop-block.invariant.done;
}

pub returns-clause-course : goal.returns-clause-course
returns-clause-course g c =
    blocks_ended _ _ c.loop-block.block _ c.loop-block-test.false ∙ c.loop-block.invariant.done
    ∙ by-type g.V.VisitsNodes.wanted c.args.routed.now.scene.nodes (g.V.VisitsNodes.step c.args.visitor.now c.args.routed.now) (seen c.args.course.now) _ c.in_ok-count.ensures.ok

pub returns-in_err-walk_block-clause-scripts : goal.returns-in_err-walk_block-clause-scripts
returns-in_err-walk_block-clause-scripts g c = scripts_then c.loop-block.invariant.scripts c.walk_block.ensures.scripts
