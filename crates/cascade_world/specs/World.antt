-- The state of a scene in the course of one input (ISO/IEC 19775-1, event model).
use Rattle.std.specs.Prelude.{◌+◌, ◌++◌, [], ◌∷◌, slice_set}
use Rattle.x3d_values.specs.Pointing.{PointerView}
use Rattle.x3d_values.specs.Stamp.{StampedView}
use Rattle.x3d_values.specs.declared.value.Value.{Value}
use Rattle.scene_core.specs.declared.scene.End.{End}
use Rattle.cascade_world.specs.declared.world.Live.{Live}
use Rattle.cascade_world.specs.declared.world.WorldData.{WorldData}

-- the event is in the trace, and its output has sent
abbrev pub record_event : Live → End → Value → Live
record_event live source v =
    record {
      world =
          record live.world {
            trace = live.world.trace
                ++ record {
                  input = live.world.applied;
                  time = live.world.last_time;
                  source = source;
                  value = v;
                } ∷ [];
          };
      sent = live.sent ++ source ∷ [];
    }

-- one more input, at its time; no output has sent yet
abbrev pub begin : WorldData → StampedView → Live
begin w input =
    record { world = record w { applied = w.applied + 1; last_time = input.time }; sent = [] }

-- a viewer's button has the state in its pointer
abbrev pub with_button : Live → PointerView → Live
with_button live p =
    let buttons = slice_set live.world.buttons p.who p.down in
    record live { world = record live.world { buttons = buttons } }
