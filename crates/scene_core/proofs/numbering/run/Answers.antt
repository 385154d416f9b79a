use Rattle.std.proofs.Common.{◌≡◌, ◌∙◌, sym, arith, []}
use Rattle.std.proofs.lemmas.Grind.{common_steps}
use Rattle.scene_core.proofs.TaskLemmas.{finish-push, finish-none, work-push}
use Rattle.scene_core.proofs.numbering.run.Goals as goal

pub loop-task-smaller : goal.loop-task-smaller
loop-task-smaller c =
    rw c.in-Some.ensures.items
    (omega (arith, work-push c.args.nodes.now c.loop-task.state c.pop.new.self.items c.in-Some.task, c.in_ok-step.ensures.fewer))

pub loop-task-preserved : goal.loop-task-preserved
loop-task-preserved c = record {
  done =
      c.in_ok-step.ensures.done
      ∙ sym (finish-push c.args.nodes.now c.loop-task.state c.pop.new.self.items c.in-Some.task)
      ∙ (rw c.in-Some.ensures.items at c.loop-task.invariant.done);
  few = c.in_ok-step.ensures.few;
}

pub returns : goal.returns
returns c =
    let none : c.loop-task.tasks.items ≡ [] = grind (arith, common_steps) in
    sym (finish-none c.args.nodes.now c.loop-task.state) ∙ (rw none at c.loop-task.invariant.done)
