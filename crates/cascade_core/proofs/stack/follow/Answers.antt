use Rattle.std.proofs.Common.{◌+◌, ◌<◌, sym, ap, length}
use Rattle.cascade_core.specs.Course.{CourseView, wiring_at, seen}
use Rattle.cascade_core.specs.Stack.{finish}
use Rattle.cascade_core.proofs.TaskLists.{follow-none, follow-done, follow-fewer, follow-ready, last-done, last-fewer, reached-ready}
use Rattle.cascade_trace.proofs.RoutePlaces.{target-few}
use Rattle.cascade_core.proofs.Resting.{has_scripts_then}
use Rattle.cascade_core.proofs.stack.follow.Goals as goal

pub deliver-requires : goal.deliver-requires
deliver-requires g c = record { working = c.requires.working }

pub returns-in_default-clause-done : goal.returns-in_default-clause-done
returns-in_default-clause-done g c =
    ap (λ (t : CourseView). finish (wiring_at c.args.routed.now) t c.args.buffers.now.tasks.items)
    (sym (follow-none (wiring_at c.args.routed.now) (seen c.args.course.now) c.args.source c.args.value c.args.next (rw c.in_default.is at c.hop_at.ensures.none)))

pub returns-clause-done : goal.returns-clause-done
returns-clause-done g c =
    rw (c.in_ok-push_replies.ensures.tasks, c.deliver.ensures.tasks, c.in-Ok.ensures.replies, c.in-Ok.ensures.course)
    (last-done (wiring_at c.args.routed.now) (seen c.args.course.now) c.args.source c.args.value c.args.next c.in-Some.hop.target c.args.buffers.now.tasks.items
    c.in-Some.ensures.target (c.in-Some.ensures.last c.if-hop.false))

pub returns-clause-working : goal.returns-clause-working
returns-clause-working g c = record {
  ready =
      rw (c.in_ok-push_replies.ensures.tasks, c.deliver.ensures.tasks, c.in-Ok.ensures.replies)
      (reached-ready (wiring_at c.args.routed.now) (seen c.args.course.now) c.in-Some.hop.target c.args.value c.args.buffers.now.tasks.items c.requires.working.has_scripts.sound c.requires.working.ready);
  none = c.in_ok-push_replies.ensures.none;
  boxes = c.in-Ok.ensures.boxes;
  has_scripts = has_scripts_then c.deliver.ensures.scripts c.requires.working.has_scripts;
}

pub returns-clause-fewer : goal.returns-clause-fewer
returns-clause-fewer g c =
    let below : c.args.next < length c.args.routed.now.routes = target-few c.args.routed.now.routes c.args.source c.args.next c.in-Some.hop.target c.in-Some.ensures.target in
    rw (c.in_ok-push_replies.ensures.tasks, c.deliver.ensures.tasks, c.in-Ok.ensures.course)
    (last-fewer (wiring_at c.args.routed.now) (seen c.args.course.now) c.in-Some.hop.target
    c.args.source c.args.value c.args.next c.in-Some.hop.target.node _ c.args.buffers.now.tasks.items c.in_ok-push_replies.ensures.few below)

pub returns-then-hop-clause-done : goal.returns-then-hop-clause-done
returns-then-hop-clause-done g c =
    rw (c.in_ok-push_before.ensures.tasks, c.deliver.ensures.tasks, c.in-Ok.ensures.replies, c.in-Ok.ensures.course)
    (follow-done (wiring_at c.args.routed.now) (seen c.args.course.now) c.args.source c.args.value c.args.next c.in-Some.hop.target c.args.buffers.now.tasks.items c.in-Some.ensures.target)

pub returns-then-hop-clause-working : goal.returns-then-hop-clause-working
returns-then-hop-clause-working g c = record {
  ready =
      rw (c.in_ok-push_before.ensures.tasks, c.deliver.ensures.tasks, c.in-Ok.ensures.replies)
      (reached-ready (wiring_at c.args.routed.now) (seen c.args.course.now) c.in-Some.hop.target c.args.value _ c.requires.working.has_scripts.sound
      (follow-ready (wiring_at c.args.routed.now).shapes c.args.source c.args.value (c.args.next + 1) c.args.buffers.now.tasks.items c.requires.working.ready));
  none = c.in_ok-push_before.ensures.none;
  boxes = c.in-Ok.ensures.boxes;
  has_scripts = has_scripts_then c.deliver.ensures.scripts c.requires.working.has_scripts;
}

pub returns-then-hop-clause-fewer : goal.returns-then-hop-clause-fewer
returns-then-hop-clause-fewer g c =
    let below : c.args.next < length c.args.routed.now.routes = target-few c.args.routed.now.routes c.args.source c.args.next c.in-Some.hop.target c.in-Some.ensures.target in
    rw (c.in_ok-push_before.ensures.tasks, c.deliver.ensures.tasks, c.in-Ok.ensures.course)
    (follow-fewer (wiring_at c.args.routed.now) (seen c.args.course.now) c.in-Some.hop.target
    c.args.source c.args.value c.args.next c.in-Some.hop.target.node _ c.args.buffers.now.tasks.items c.in_ok-push_before.ensures.few below)
