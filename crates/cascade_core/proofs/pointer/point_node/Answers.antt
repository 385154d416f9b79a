use Rattle.std.proofs.Common.{◌∙◌, refl}
use Rattle.cascade_world.specs.Answers.{pointer_at}
use Rattle.cascade_world.specs.Insides.{seen as insides_seen}
use Rattle.cascade_core.specs.Apply.{point_node}
use Rattle.cascade_core.proofs.Shown.{met-rows}
use Rattle.cascade_core.proofs.TaskLists.{met-ready}
use Rattle.cascade_core.specs.Course.{wiring_at, seen}
use Rattle.cascade_core.proofs.Skipped.{passed-course}
use Rattle.cascade_core.proofs.pointer.point_node.Goals as goal

pub returns-then-passes-clause-course : goal.returns-then-passes-clause-course
returns-then-passes-clause-course g c =
    passed-course c.args.routed.now.scene (wiring_at c.args.routed.now) c.args.aim.now.pointer c.args.aim.now.before (insides_seen c.args.aim.now.inside) c.args.course.now.live.world (seen c.args.course.now) c.args.concerned
    (c.passes.ensures c.args.routed.now.scene c.if-passes.true) refl

pub send_replies-requires : goal.send_replies-requires
send_replies-requires g c =
    let scene = c.args.routed.now.scene in
    let w = c.args.course.now.live.world in
    let x = c.args.concerned in
    let at = pointer_at c.args.aim.now.pointer c.args.aim.now.before (insides_seen c.args.aim.now.inside) x.tracked x.sensor in
    record {
      empty = c.requires.rest.empty;
      boxes = rw c.meet.ensures.world (c.requires.rest.boxes ∙ met-rows scene w x.sensor at);
      has_scripts = record { sound = c.requires.rest.has_scripts.sound; counted = c.requires.rest.has_scripts.counted };
      ready = rw c.meet.ensures.replies (met-ready scene w x.sensor at);
    }

pub returns-clause-scripts : goal.returns-clause-scripts
returns-clause-scripts g c = record { kinds = c.send_replies.ensures.scripts.kinds; count = c.send_replies.ensures.scripts.count }

pub returns-clause-course : goal.returns-clause-course
unfolding point_node
returns-clause-course g c = rw (c.meet.ensures.replies, c.meet.ensures.world) at c.send_replies.ensures.course
