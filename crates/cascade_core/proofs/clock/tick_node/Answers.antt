use Rattle.cascade_core.specs.Apply.{tick_node}
use Rattle.cascade_core.proofs.Shown.{ticked-fields}
use Rattle.cascade_core.proofs.TaskLists.{ticked-ready}
use Rattle.cascade_core.proofs.clock.tick_node.Goals as goal

pub send_replies-requires : goal.send_replies-requires
send_replies-requires g c = record {
  empty = c.requires.rest.empty;
  boxes = rw (c.tick.ensures.world, ticked-fields c.args.course.now.live.world c.args.node c.args.input.now.time) c.requires.rest.boxes;
  has_scripts = record { sound = c.requires.rest.has_scripts.sound; counted = c.requires.rest.has_scripts.counted };
  ready =
      rw c.tick.ensures.replies
      (ticked-ready c.args.routed.now.scene c.args.course.now.live.world c.args.node c.args.input.now.time c.requires.clock);
}

pub returns-clause-scripts : goal.returns-clause-scripts
returns-clause-scripts g c = record { kinds = c.send_replies.ensures.scripts.kinds; count = c.send_replies.ensures.scripts.count }

pub returns-clause-course : goal.returns-clause-course
unfolding tick_node
returns-clause-course g c = rw (c.tick.ensures.replies, c.tick.ensures.world) at c.send_replies.ensures.course
