use Rattle.std.proofs.Common.{◌≡◌, ◌≤◌, length}
use Rattle.scene_core.specs.Tasks.{finish, unopened, work_left}
use Rattle.scene_core.proofs.numbering.run.Given as goal

-- the tasks that are left come to what all come to
abbrev pub invariant-loop-task : goal.invariant-loop-task
invariant-loop-task l = record {
  done : finish l.nodes l.state l.tasks.items ≡ finish l.nodes l.fn.state l.fn.tasks.items;
  few : unopened l.state.opened ≤ length l.nodes;
}

abbrev pub decreases-loop-task : goal.decreases-loop-task
decreases-loop-task l = work_left l.nodes l.state l.tasks.items
