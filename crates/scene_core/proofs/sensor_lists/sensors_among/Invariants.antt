use Rattle.std.proofs.Common.{◌≡◌, take}
use Rattle.std.specs.List.{filter}
use Rattle.scene_core.specs.Places.{is_sensor}
use Rattle.scene_core.proofs.sensor_lists.sensors_among.Given as goal

abbrev pub invariant-loop-n : goal.invariant-loop-n
invariant-loop-n l = l.sensors ≡ filter (is_sensor l.nodes) (take l.n-index l.list)
