-- The fields that were set after an input, each once, with its current value (our choice).
use Rattle.std.specs.Prelude.{ℕ, ℤ, List, [], ◌∷◌, ◌++◌, length, Option, Some, None}
use Rattle.std.specs.List.{fold}
use Rattle.cascade_trace.specs.declared.trace.TraceLine.{TraceLine}
use Rattle.embed_changes.specs.Numbers.{numbers_of}
use Rattle.embed_changes.specs.Outputs.{outputs_after}
use Rattle.embed_changes.specs.Values.{value_now}
use Rattle.embed_changes.specs.declared.changes.Change.{Change}
use Rattle.embed_scene.specs.Fields.{type_number}
use Rattle.scene_core.specs.Scene.{SceneView}
use Rattle.scene_core.specs.declared.scene.End.{End}
use Rattle.x3d_values.specs.Values.{type_of}
use Rattle.x3d_values.specs.declared.fields.Fields.{Fields}
use Rattle.x3d_values.specs.declared.value.Value.{Value}

-- a field with this value, whose numbers are `count` from the place `first` on
abbrev pub change_of : End → Value → (first count : ℕ) → Change
change_of e v first count =
    record {
      node = e.node;
      field = e.field;
      value_type = type_number (type_of v);
      first = first;
      count = count;
    }

-- changes, and the numbers of all their values
abbrev pub Listing : Type 0
Listing = List Change × List ℤ

-- a field with this value is listed after others; a field without a value is left out
abbrev pub with_value : Listing → End → Option Value → Listing
with_value made e None = made
with_value made e (Some v) = (
  made.0 ++ change_of e v (length made.1) (length (numbers_of v)) ∷ [],
  made.1 ++ numbers_of v,
)

-- a field is listed with its current value
abbrev pub listed : SceneView → List Fields → Listing → End → Listing
listed scene state made e = with_value made e (value_now scene state e.node e.field)

-- The fields that lines of later inputs name, with their current values. A field can be set twice
-- at an input, but it sends once: its line has the first value, and the list the last.
abbrev pub changes_after : SceneView → List Fields → List TraceLine → (since : ℕ) → Listing
changes_after scene state lines since =
    fold (listed scene state) ([], []) (outputs_after since lines)
