use Rattle.std.proofs.Common.{◌≡◌, drop}
use Rattle.std.specs.List.{fold}
use Rattle.cascade_core.specs.Course.{wiring_at, seen}
use Rattle.cascade_core.specs.Resting.{HasSameScripts, IsAtRest}
use Rattle.cascade_world.specs.Insides.{seen as insides_seen}
use Rattle.cascade_core.specs.Apply.{point_node as point_node_of}
use Rattle.cascade_core.proofs.pointer.point_listed.Given as goal

-- the course now, after the sensors that are left have met the pointer, is what the definition gives for all
abbrev pub invariant-loop-sensor : goal.invariant-loop-sensor
invariant-loop-sensor g l = record {
  rest : IsAtRest l.routed l.buffers (seen l.course);
  scripts : HasSameScripts (seen l.fn.course) (seen l.course);
  done :
      fold (point_node_of l.routed.scene (wiring_at l.routed) l.aim.pointer l.aim.before (insides_seen l.aim.inside)) (seen l.course) (drop l.sensor-index l.sensors)
      ≡ fold (point_node_of l.routed.scene (wiring_at l.routed) l.aim.pointer l.aim.before (insides_seen l.aim.inside)) (seen l.fn.course) l.sensors;
}
