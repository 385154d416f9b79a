use Rattle.std.proofs.Common.{◌≡◌, true}
use Rattle.std.specs.List.{list_all}
use Rattle.std.specs.Vec.Iter.{into_iter_items}
use Rattle.scene_core.specs.Scene.{shapes_of}
use Rattle.cascade_core.specs.Apply.{sent_by_all}
use Rattle.cascade_core.specs.Course.{wiring_at, seen}
use Rattle.cascade_core.specs.Resting.{HasSameScripts, IsAtRest}
use Rattle.cascade_core.specs.Sound.{are_sent}
use Rattle.cascade_core.proofs.opening.send_all.Given as goal

-- the course now, with what is left to send, is what sending all gives
abbrev pub invariant-loop-sending : goal.invariant-loop-sending
invariant-loop-sending g l = record {
  rest : IsAtRest l.routed l.buffers (seen l.course);
  scripts : HasSameScripts (seen l.fn.course) (seen l.course);
  outputs : list_all (are_sent (shapes_of l.routed.scene)) (into_iter_items l.sending-iterator) ≡ true;
  done :
      sent_by_all (wiring_at l.routed) (seen l.course) (into_iter_items l.sending-iterator)
      ≡ sent_by_all (wiring_at l.routed) (seen l.fn.course) l.fn.sendings.items;
}
