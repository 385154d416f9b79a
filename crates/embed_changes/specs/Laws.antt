-- Which fields are listed.
use Rattle.std.specs.Prelude.{◌≡◌, ℕ, Bool, true, ◌&&◌, List, map}
use Rattle.std.specs.List.{filter, list_any}
use Rattle.std.specs.Prelude.{is_some}
use Rattle.cascade_trace.specs.Ends.{all_differ, has_sent, same_end}
use Rattle.cascade_trace.specs.declared.trace.TraceLine.{TraceLine}
use Rattle.embed_changes.specs.Changes.{changes_after}
use Rattle.embed_changes.specs.Outputs.{is_after, outputs_after}
use Rattle.embed_changes.specs.Values.{value_now}
use Rattle.embed_changes.specs.declared.changes.Change.{Change}
use Rattle.scene_core.specs.Scene.{SceneView}
use Rattle.scene_core.specs.declared.scene.End.{End}
use Rattle.x3d_values.specs.declared.fields.Fields.{Fields}

-- no output is listed twice
abbrev pub AreOnce : Type 0
AreOnce = (since : ℕ) (lines : List TraceLine) → all_differ (outputs_after since lines) ≡ true

-- the outputs are those that a line of a later input names
abbrev pub AreNamed : Type 0
AreNamed = (since : ℕ) (lines : List TraceLine) (e : End)
    → has_sent (outputs_after since lines) e
    ≡ list_any (λ l. is_after since l && same_end l.source e) lines

abbrev pub place_of : Change → End
place_of change = record { node = change.node; field = change.field }

abbrev pub holds_value : SceneView → List Fields → End → Bool
holds_value scene state e = is_some (value_now scene state e.node e.field)

-- the changes are the outputs that hold a value
abbrev pub AreThoseThatHold : Type 0
AreThoseThatHold = (scene : SceneView) (state : List Fields) (lines : List TraceLine) (since : ℕ)
    → map place_of (changes_after scene state lines since).0
    ≡ filter (holds_value scene state) (outputs_after since lines)
