use Rattle.std.proofs.Common.{map}
use Rattle.script_boxes.specs.Boxes.{made_of}
use Rattle.script_boxes.proofs.Making.{one_more_box}
use Rattle.script_boxes.proofs.boxes.boxes_of.Goals as goal

pub loop-spec-preserved : goal.loop-spec-preserved
loop-spec-preserved c =
    one_more_box c.args.specs.now c.loop-spec.spec-index c.spec-item.result (map made_of c.loop-spec.boxes.items) (map made_of c.push_box.new.boxes.items)
    c.loop-spec-test.true c.spec-item.is c.loop-spec.invariant c.in_ok-push_box.ensures
