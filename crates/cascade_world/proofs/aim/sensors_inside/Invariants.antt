use Rattle.std.proofs.Common.{◌≡◌, map, take}
use Rattle.cascade_world.specs.Insides.{inside_by}
use Rattle.cascade_world.proofs.aim.sensors_inside.Given as goal

abbrev pub invariant-loop-sensor : goal.invariant-loop-sensor
invariant-loop-sensor l = l.inside.items ≡ map (inside_by l.scene l.state l.ray l.hit) (take l.sensor-index l.sensors)
