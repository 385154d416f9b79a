use Rattle.std.proofs.Common.{◌≡◌, ◌≤◌, drop, length}
use Rattle.std.specs.List.{fold}
use Rattle.scene_core.specs.Places.{with_sensor, sensors_in}
use Rattle.scene_core.proofs.places.is_crowded.Given as goal

-- the sensors so far, with those of the rest, are those of the list
abbrev pub invariant-loop-n : goal.invariant-loop-n
invariant-loop-n l = record {
  all : sensors_in l.nodes l.list ≡ fold (with_sensor l.nodes) l.sensors.items (drop l.n-index l.list);
  few : length l.sensors.items ≤ 64;
}
