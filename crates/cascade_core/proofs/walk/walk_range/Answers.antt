use Rattle.std.proofs.Common.{◌∙◌, sym}
use Rattle.cascade_core.proofs.Resting.{scripts_then}
use Rattle.cascade_core.proofs.Steps.{range_ended}
use Rattle.cascade_core.proofs.Walks.{range_next}
use Rattle.cascade_core.proofs.walk.walk_range.Goals as goal

pub loop-node-preserved : goal.loop-node-preserved
loop-node-preserved g c = record {
  rest = c.in_ok-walk_node.ensures.rest;
  scripts = scripts_then c.loop-node.invariant.scripts c.walk_node.ensures.scripts;
  done = range_next _ _ _ c.loop-node.node _ _ c.loop-node-test.true c.in_ok-walk_node.ensures.course c.loop-node.invariant.done;
}

pub returns-clause-course : goal.returns-clause-course
returns-clause-course g c =
    sym (range_ended _ _ c.loop-node.node _ c.loop-node-test.false) ∙ c.loop-node.invariant.done

pub returns-in_err-walk_node-clause-scripts : goal.returns-in_err-walk_node-clause-scripts
returns-in_err-walk_node-clause-scripts g c = scripts_then c.loop-node.invariant.scripts c.walk_node.ensures.scripts
