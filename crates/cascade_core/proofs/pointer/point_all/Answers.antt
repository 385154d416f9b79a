use Rattle.std.proofs.Common.{◌∙◌}
use Rattle.std.proofs.lemmas.Result.{on_ok_weaker}
use Rattle.scene_core.specs.Scene.{types_of}
use Rattle.cascade_world.specs.Insides.{seen as insides_seen}
use Rattle.cascade_world.specs.Nodes.{pointing_sensors_of}
use Rattle.cascade_core.specs.Apply.{point_node}
use Rattle.cascade_core.specs.Course.{wiring_at, seen}
use Rattle.cascade_core.proofs.Walks.{untracked-all}
use Rattle.cascade_core.proofs.pointer.point_all.Goals as goal

pub returns-clause-course : goal.returns-clause-course
returns-clause-course g c =
    on_ok_weaker c.walk_all.result
    (λ is. is ∙ untracked-all (point_node c.args.routed.now.scene (wiring_at c.args.routed.now) c.args.aim.now.pointer c.args.aim.now.before (insides_seen c.args.aim.now.inside)) (seen c.args.course.now) (pointing_sensors_of (types_of c.args.routed.now.scene)))
    c.walk_all.ensures.course
