-- The state of a scene as bytes (our choice).
use Rattle.std.specs.Prelude.{ℕ, ◌==◌, ◌&&◌, ℤ, Bool, List, length, map, Some}
use Rattle.byte_codec.specs.Codec.{Codec, refined, named, pair}
use Rattle.x3d_values.specs.declared.ranges.TheConstants.{MAX_VIEWERS}
use Rattle.snapshot_codec.specs.declared.head.Progress.{Progress}
use Rattle.snapshot_codec.specs.declared.trace.TraceEntry.{TraceEntry}
use Rattle.snapshot_codec.specs.Inputs.{applied_codec}
use Rattle.snapshot_codec.specs.Parts.{states_codec, viewer_set_codec}
use Rattle.snapshot_codec.specs.Trace.{moment_codec, trace_codec, entry_text}
use Rattle.snapshot_core.specs.declared.version.Version.{Version}
use Rattle.snapshot_core.specs.Opening.{numbers_of, viewers_of}
use Rattle.sensor_core.specs.Parts.{number_of, over_of}
use Rattle.scene_core.specs.Scene.{SceneView, shapes_of}
use Rattle.scene_core.specs.Shape.{Shape}
use Rattle.cascade_core.specs.Course.{Scripted}
use Rattle.cascade_core.specs.Scripts.{kinds_in}
use Rattle.cascade_trace.specs.declared.trace.TraceLine.{TraceLine}
use Rattle.cascade_world.specs.declared.world.WorldData.{WorldData}
pub use Rattle.cascade_world.specs.Fits.{sent_type, output_type}
use Rattle.snapshot_core.specs.declared.nodes.NodeLists.{NodeLists}
use Rattle.snapshot_core.specs.declared.world.Found.{Found}
use Rattle.snapshot_core.specs.declared.world.WorldParts.{WorldParts}
use Rattle.snapshot_core.specs.Nodes.{nodes_codec}

-- -- the viewers whose buttons are down

-- a set of as many viewers as a world may have, with only viewers that a version has bits for
abbrev pub set_has_bytes : Version → List Bool → Bool
set_has_bytes version set =
    (length set == MAX_VIEWERS) && (viewer_set_codec (viewers_of version)).fits (number_of set)

unfoldable pub buttons_codec : Version → Codec (List Bool)
buttons_codec version =
    refined (λ number. Some (over_of number)) number_of (set_has_bytes version)
    (viewer_set_codec (viewers_of version))

-- ---- the trace

abbrev pub line_of : TraceEntry → TraceLine
line_of entry = record {
  input = entry.sent.input;
  time = entry.sent.time;
  source = record { node = entry.sent.node; field = entry.sent.field };
  value = entry.value;
}

abbrev pub entry_of : TraceLine → TraceEntry
entry_of line = record {
  sent = record {
    input = line.input;
    time = line.time;
    node = line.source.node;
    field = line.source.field;
  };
  value = line.value;
}

-- input, time, node, field, value
abbrev pub line_text : Version → TraceLine → List ℕ
line_text version line = entry_text (numbers_of version) (entry_of line).sent line.value

unfoldable pub lines_codec : Version → List Shape → Codec (List TraceLine)
lines_codec version shapes =
    named (map line_of) (map entry_of) (trace_codec (numbers_of version) (output_type shapes))

-- ---- a world

-- nodes, buttons, the states of the scripts in number order, trace
unfoldable pub parts_codec : Version → SceneView → Codec WorldParts
parts_codec version scene =
    named (λ t. record { nodes = t.0; buttons = t.1.0; states = t.1.1.0; trace = t.1.1.1 })
    (λ p. (p.nodes, (p.buttons, (p.states, p.trace))))
    (pair (nodes_codec version scene)
    (pair (buttons_codec version)
    (pair (states_codec (length (kinds_in scene))) (lines_codec version (shapes_of scene)))))

-- inputs applied, time of the last input, and the parts
abbrev pub world_of : ℕ × (ℤ × WorldParts) → Scripted
world_of x = record {
  world = record {
    applied = x.0;
    last_time = x.1.0;
    fields = x.1.1.nodes.fields;
    sensors = x.1.1.nodes.sensors;
    pointing = x.1.1.nodes.pointing;
    buttons = x.1.1.buttons;
    trace = x.1.1.trace;
  };
  states = x.1.1.states;
}

abbrev pub lists_in : WorldData → NodeLists
lists_in w = record { fields = w.fields; sensors = w.sensors; pointing = w.pointing }

abbrev pub parts_in : Scripted → WorldParts
parts_in w = record {
  nodes = lists_in w.world;
  buttons = w.world.buttons;
  states = w.states;
  trace = w.world.trace;
}

-- the worlds of a scene in snapshots of a version, by the shapes of its nodes and the number of its
-- scripts: the worlds that fit have bytes. Whether the numbers of a script are one of its states is
-- not checked here.
unfoldable pub world_codec : Version → SceneView → Codec Scripted
world_codec version scene =
    named world_of (λ w. (w.world.applied, (w.world.last_time, parts_in w)))
    (pair (applied_codec (numbers_of version)) (pair moment_codec (parts_codec version scene)))

-- a world with this progress and these parts
abbrev pub world_with : Progress → WorldParts → Scripted
world_with progress parts = world_of (progress.applied, (progress.last_time, parts))

-- a boot, and a world that was read with it
abbrev pub booted : Found → ℕ × Scripted
booted found = (found.boot, record { world = found.world; states = found.states })
