use Rattle.std.proofs.Common.{◌≡◌}
use Rattle.cascade_core.specs.Course.{wiring_at, seen}
use Rattle.cascade_core.specs.Resting.{HasSameScripts, IsWorking}
use Rattle.cascade_core.specs.Stack.{finish, work_left}
use Rattle.cascade_core.proofs.stack.run_tasks.Given as goal

-- the course now, with the tasks that are left done by the definition, is what the definition gives for all
abbrev pub invariant-loop-task : goal.invariant-loop-task
invariant-loop-task g l = record {
  working : IsWorking l.routed l.buffers (seen l.course);
  scripts : HasSameScripts (seen l.fn.course) (seen l.course);
  done : finish (wiring_at l.routed) (seen l.course) l.buffers.tasks.items ≡ finish (wiring_at l.routed) (seen l.fn.course) l.fn.buffers.tasks.items;
}

abbrev pub decreases-loop-task : goal.decreases-loop-task
decreases-loop-task g l = work_left (wiring_at l.routed) (seen l.course) l.buffers.tasks.items
