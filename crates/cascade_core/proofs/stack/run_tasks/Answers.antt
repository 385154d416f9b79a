use Rattle.std.proofs.Common.{◌≡◌, ◌∙◌, sym, arith, [], ◌∷◌}
use Rattle.std.proofs.lemmas.Grind.{common_steps}
use Rattle.scene_core.specs.Scene.{shapes_of}
use Rattle.cascade_core.specs.Course.{wiring_at, seen}
use Rattle.cascade_core.specs.Stack.{IsReady}
use Rattle.cascade_core.proofs.Resting.{scripts_then}
use Rattle.cascade_core.proofs.TaskLists.{finish-push, finish-none, all-front, all-last, work-push}
use Rattle.cascade_core.proofs.stack.run_tasks.Goals as goal

pub step-requires-clause-task : goal.step-requires-clause-task
step-requires-clause-task g c =
    all-last (IsReady (shapes_of c.args.routed.now.scene)) c.pop.new.self.items c.in-Some.task (rw c.in-Some.ensures.items at c.loop-task.invariant.working.ready)

pub step-requires-clause-working : goal.step-requires-clause-working
step-requires-clause-working g c = record {
  ready = all-front (IsReady (shapes_of c.args.routed.now.scene)) c.pop.new.self.items (c.in-Some.task ∷ []) (rw c.in-Some.ensures.items at c.loop-task.invariant.working.ready);
  none = c.loop-task.invariant.working.none;
  boxes = c.loop-task.invariant.working.boxes;
  has_scripts = c.loop-task.invariant.working.has_scripts;
}

pub loop-task-smaller : goal.loop-task-smaller
loop-task-smaller g c =
    rw c.in-Some.ensures.items
    (omega (arith, work-push (wiring_at c.args.routed.now) (seen c.loop-task.course) c.pop.new.self.items c.in-Some.task, c.in_ok-step.ensures.fewer))

pub loop-task-preserved : goal.loop-task-preserved
loop-task-preserved g c = record {
  working = c.in_ok-step.ensures.working;
  scripts = scripts_then c.loop-task.invariant.scripts c.step.ensures.scripts;
  done =
      c.in_ok-step.ensures.done
      ∙ sym (finish-push (wiring_at c.args.routed.now) (seen c.loop-task.course) c.pop.new.self.items c.in-Some.task)
      ∙ (rw c.in-Some.ensures.items at c.loop-task.invariant.done);
}

pub returns-clause-course : goal.returns-clause-course
returns-clause-course g c =
    let none : c.loop-task.buffers.tasks.items ≡ [] = grind (arith, common_steps) in
    sym (finish-none (wiring_at c.args.routed.now) (seen c.loop-task.course)) ∙ (rw none at c.loop-task.invariant.done)

pub returns-clause-rest : goal.returns-clause-rest
returns-clause-rest g c = record {
  empty = grind (arith, common_steps);
  none = c.loop-task.invariant.working.none;
  boxes = c.loop-task.invariant.working.boxes;
  has_scripts = c.loop-task.invariant.working.has_scripts;
}

pub returns-in_err-step-clause-scripts : goal.returns-in_err-step-clause-scripts
returns-in_err-step-clause-scripts g c = scripts_then c.loop-task.invariant.scripts c.step.ensures.scripts
