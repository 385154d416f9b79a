use Rattle.std.proofs.Common.{◌∙◌}
use Rattle.cascade_core.specs.Course.{wiring_at, seen}
use Rattle.cascade_core.proofs.TaskLists.{finish-all}
use Rattle.cascade_core.proofs.stack.send_replies.Goals as goal

pub run_tasks-requires : goal.run_tasks-requires
run_tasks-requires g c = record {
  working = record {
    ready = rw (c.in_ok-push_replies.ensures.tasks, c.requires.empty) c.requires.ready;
    none = c.in_ok-push_replies.ensures.none;
    boxes = c.requires.boxes;
    has_scripts = c.requires.has_scripts;
  };
}

pub returns-clause-course : goal.returns-clause-course
returns-clause-course g c =
    c.in_ok-run_tasks.ensures.course
    ∙ rw (c.in_ok-push_replies.ensures.tasks, c.requires.empty)
    (finish-all (wiring_at c.args.routed.now) c.args.node c.args.buffers.now.replies.items (seen c.args.course.now))
