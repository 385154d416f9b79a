use Rattle.std.proofs.Common.{◌∙◌, ap, ◌∷◌, ◌++◌, []}
use Rattle.scene_core.specs.Scene.{types_of}
use Rattle.sensor_plane.specs.declared.pointing.PointingState.{PointingState}
use Rattle.cascade_core.proofs.Beginnings.{begun-next}
use Rattle.cascade_core.proofs.parts.pointing_of.Goals as goal

pub loop-node-preserved : goal.loop-node-preserved
loop-node-preserved c =
    begun-next (types_of c.args.scene.now) c.loop-node.node c.node_type.result c.loop-node.slots.items c.push.new.self.items c.node_type.ensures c.loop-node.invariant
    (c.in_ok-push.ensures.items ∙ ap (λ (s : PointingState). c.loop-node.slots.items ++ s ∷ []) c.in-Ok.ensures)
