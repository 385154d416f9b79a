use Rattle.std.proofs.Common.{◌≡◌, map, take}
use Rattle.scene_core.specs.Scene.{types_of}
use Rattle.sensor_plane.specs.Pointing.{start_of}
use Rattle.cascade_core.proofs.parts.pointing_of.Given as goal

-- of the nodes so far
abbrev pub invariant-loop-node : goal.invariant-loop-node
invariant-loop-node l = l.slots.items ≡ map start_of (take l.node (types_of l.scene))
