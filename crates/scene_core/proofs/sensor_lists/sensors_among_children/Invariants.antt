use Rattle.std.proofs.Common.{◌≡◌, map, take}
use Rattle.scene_core.specs.SensorLists.{sensors_among_children}
use Rattle.scene_core.proofs.sensor_lists.sensors_among_children.Given as goal

abbrev pub invariant-loop-node : goal.invariant-loop-node
invariant-loop-node l = l.all.items ≡ map (sensors_among_children l.nodes) (take l.node-index l.nodes)
