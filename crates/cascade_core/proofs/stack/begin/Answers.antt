use Rattle.std.proofs.Common.{◌≡◌, ◌∙◌, true, false, sym, ap, arith, refl}
use Rattle.cascade_trace.specs.Ends.{has_sent}
use Rattle.cascade_core.specs.Course.{CourseView, wiring_at, seen}
use Rattle.cascade_core.specs.Cascade.{recorded}
use Rattle.cascade_core.specs.Stack.{finish}
use Rattle.cascade_core.specs.declared.tasks.CascadeTask.TheVariants.{Follow}
use Rattle.script_running.specs.Acting.{kinds_of}
use Rattle.cascade_core.proofs.Sends.{is_first, moves, stands, was_sent}
use Rattle.cascade_core.proofs.Depths.{send_full-sent}
use Rattle.cascade_core.proofs.SoundLemmas.{has_scripts_still}
use Rattle.cascade_core.proofs.TaskLists.{begin-done, begin-fewer, finish-push, work-push}
use Rattle.cascade_core.proofs.stack.begin.Goals as goal

-- ---- it sends

pub follow-requires : goal.follow-requires
follow-requires g c =
    let new : has_sent c.args.course.now.live.sent c.args.source ≡ false = is_first _ _ c.in-Ok.ensures.first c.if-sends.true in
    record {
      working = record {
        ready = c.requires.working.ready;
        none = c.requires.working.none;
        boxes = rw (moves _ _ _ _ c.in-Ok.ensures.live new) c.requires.working.boxes;
        has_scripts = has_scripts_still (wiring_at c.args.routed.now) (seen c.args.course.now) _ refl refl c.requires.working.has_scripts;
      };
    }

pub returns-then-sends-clause-done : goal.returns-then-sends-clause-done
returns-then-sends-clause-done g c =
    let new : has_sent c.args.course.now.live.sent c.args.source ≡ false = is_first _ _ c.in-Ok.ensures.first c.if-sends.true in
    c.in_ok-follow.ensures.done
    ∙ (rw (moves _ _ _ _ c.in-Ok.ensures.live new)
    (sym (finish-push (wiring_at c.args.routed.now) (recorded (seen c.args.course.now) c.args.source c.args.value) c.args.buffers.now.tasks.items (Follow c.args.source c.args.value 0))
    ∙ begin-done (wiring_at c.args.routed.now) (kinds_of c.args.course.now.scripts) c.requires.working.has_scripts.sound (seen c.args.course.now) c.args.source c.args.value c.args.buffers.now.tasks.items c.requires.task refl new))

pub returns-then-sends-clause-fewer : goal.returns-then-sends-clause-fewer
returns-then-sends-clause-fewer g c =
    let new : has_sent c.args.course.now.live.sent c.args.source ≡ false = is_first _ _ c.in-Ok.ensures.first c.if-sends.true in
    omega (
      arith,
      rw (moves _ _ _ _ c.in-Ok.ensures.live new) at c.in_ok-follow.ensures.fewer,
      work-push (wiring_at c.args.routed.now) (recorded (seen c.args.course.now) c.args.source c.args.value) c.args.buffers.now.tasks.items (Follow c.args.source c.args.value 0),
      begin-fewer (wiring_at c.args.routed.now) (seen c.args.course.now) c.args.source c.args.value c.args.buffers.now.tasks.items c.requires.task new,
    )

-- ---- it has sent before

pub returns-clause-done : goal.returns-clause-done
returns-clause-done g c =
    let before : has_sent c.args.course.now.live.sent c.args.source ≡ true = was_sent _ _ c.in-Ok.ensures.first c.if-sends.false in
    rw (stands _ _ _ _ c.in-Ok.ensures.live before)
    (ap (λ (t : CourseView). finish (wiring_at c.args.routed.now) t c.args.buffers.now.tasks.items)
    (sym (send_full-sent (wiring_at c.args.routed.now) (seen c.args.course.now) c.args.source c.args.value before)))

pub returns-clause-fewer : goal.returns-clause-fewer
returns-clause-fewer g c =
    let before : has_sent c.args.course.now.live.sent c.args.source ≡ true = was_sent _ _ c.in-Ok.ensures.first c.if-sends.false in
    rw (stands _ _ _ _ c.in-Ok.ensures.live before) (omega arith)

pub returns-clause-working : goal.returns-clause-working
returns-clause-working g c =
    let before : has_sent c.args.course.now.live.sent c.args.source ≡ true = was_sent _ _ c.in-Ok.ensures.first c.if-sends.false in
    rw (stands _ _ _ _ c.in-Ok.ensures.live before) c.requires.working

pub returns-then-sends-clause-scripts : goal.returns-then-sends-clause-scripts
returns-then-sends-clause-scripts g c = record { kinds = c.follow.ensures.scripts.kinds; count = c.follow.ensures.scripts.count }
