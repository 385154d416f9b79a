-- What is asked of a world or a viewer, and what is written of the answer.
use Rattle.std.specs.Prelude.{◌≡◌, ℕ, ℤ, List, Option, Some, None, Result, Ok, Err}
use Rattle.cascade_core.specs.Held.{StageView, world_in}
use Rattle.embed_scene.specs.Named.{IsNodeNamed}
use Rattle.embed_scene.specs.declared.fields.FieldAs.{FieldAs}
use Rattle.embed_world.specs.Looks.{of_world}
use Rattle.embed_world.specs.Status.{IsWritten, closed, no_such_field, no_such_node, status_of_look}
use Rattle.embed_world.specs.declared.fault.LookFault.{LookFault}
use Rattle.scene_core.specs.Scene.{SceneView}

-- ---- fields

-- the type and the access of a field are written, if there is one
abbrev pub IsDescribed : Option FieldAs → (old : FieldAs) → (status : ℕ) → (new : FieldAs) → Type 0
IsDescribed found old status new = IsWritten no_such_field found old status new

-- a field of what the handle holds is described
abbrev pub Describes : {H : Type 0} → (H → Option FieldAs) → Option H → ℕ → (old new : FieldAs)
    → Type 0
Describes found None status old new = (status ≡ closed) × (new ≡ old)
Describes found (Some h) status old new = IsDescribed (found h) old status new

-- ---- nodes

-- the number of a node is written, if there is one
abbrev pub IsNodeTold : Option ℕ → (old status new : ℕ) → Type 0
IsNodeTold found old status new = IsWritten no_such_node found old status new

-- the node of a name is looked up in a scene
abbrev pub FindsNodeIn : SceneView → List ℕ → (status old new : ℕ) → Type 0
FindsNodeIn scene name status old new =
    (found : Option ℕ) × IsNodeNamed scene name found × IsNodeTold found old status new

-- the node of a name is looked up in the scene of what the handle holds
abbrev pub FindsNode : {H : Type 0} → (H → SceneView) → List ℕ → Option H → (status old new : ℕ)
    → Type 0
FindsNode scene_of name None status old new = (status ≡ closed) × (new ≡ old)
FindsNode scene_of name (Some h) status old new = FindsNodeIn (scene_of h) name status old new

-- ---- times

-- the time of the last input, or 0 before the first
abbrev pub time_in : StageView → Result ℤ LookFault
time_in stage = of_world (world_in stage.held) (λ w. Ok w.last_time)

abbrev pub status_of_time : Result ℤ LookFault → ℕ
status_of_time (Ok _) = 0
status_of_time (Err fault) = status_of_look (Err fault)

abbrev pub time_told : ℤ → Result ℤ LookFault → ℤ
time_told old (Ok time) = time
time_told old (Err fault) = old

-- the time of what the handle holds is written, unless that is spoiled
abbrev pub TellsTime : {H : Type 0} → (H → Result ℤ LookFault) → Option H → ℕ → (old new : ℤ)
    → Type 0
TellsTime asked None status old new = (status ≡ closed) × (new ≡ old)
TellsTime asked (Some h) status old new =
    (status ≡ status_of_time (asked h)) × (new ≡ time_told old (asked h))
