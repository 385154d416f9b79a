-- What is read of a world, or why nothing is.
use Rattle.std.specs.Prelude.{ℕ, ℤ, pos, List, [], ◌∷◌, Option, Some, None, Result, Ok, Err, nat_lt, length, if◌then◌else◌}
use Rattle.std.specs.List.{flat_map}
use Rattle.std.specs.Option.{option_map}
use Rattle.cascade_core.specs.Course.{Scripted}
use Rattle.cascade_core.specs.Held.{Held, Running, Spoiled, StageView, world_in}
use Rattle.cascade_core.specs.Texts.{scene_text}
use Rattle.pick_core.specs.Sensors.{sensors_of}
use Rattle.pick_core.specs.declared.hit.Hit.{Hit}
use Rattle.scene_core.specs.Scene.{SceneView, children_of, field_name, label_of, rows_at, type_at}
use Rattle.scene_core.specs.declared.scene.Route.{Route}
use Rattle.snapshot_core.specs.Shot.{shot}
use Rattle.snapshot_core.specs.declared.fault.SaveFault.{SaveFault}
use Rattle.snapshot_core.specs.declared.fault.SaveFault.TheVariants as save
use Rattle.cascade_trace.specs.LineText.{line_text}
use Rattle.cascade_world.specs.declared.world.WorldData.{WorldData}
use Rattle.embed_changes.specs.Changes.{Listing, changes_after}
use Rattle.embed_changes.specs.Numbers.{node_numbers, numbers_of}
use Rattle.embed_changes.specs.Values.{value_now}
use Rattle.embed_scene.specs.Scripts.{scripts_in}
use Rattle.embed_world.specs.Lines.{change_text, from_on}
use Rattle.embed_world.specs.Meeting.{hit_by}
use Rattle.x3d_values.specs.Names.{node_type_name}
use Rattle.x3d_values.specs.Pointing.{RayView}
use Rattle.x3d_values.specs.ValueText.{value_text}
use Rattle.x3d_values.specs.declared.fields.Fields.{Fields}
use Rattle.embed_world.specs.declared.fault.LookFault.{LookFault}
use Rattle.embed_world.specs.declared.lists.ListEntry.{ListEntry}
use Rattle.embed_world.specs.declared.fault.LookFault.TheVariants as look

abbrev pub or_fault : {A : Type 0} → LookFault → Option A → Result A LookFault
or_fault fault None = Err fault
or_fault fault (Some a) = Ok a

-- what is read of a world, unless the stage is spoiled
abbrev pub of_world : {A : Type 0} → Option WorldData → (WorldData → Result A LookFault)
    → Result A LookFault
of_world None read = Err look.Spoiled
of_world (Some w) read = read w

-- ---- texts

-- the lines of the trace of inputs from a number on
abbrev pub trace_from : StageView → ℕ → Result (List ℕ) LookFault
trace_from stage first =
    of_world (world_in stage.held)
    (λ w. Ok (flat_map (from_on (line_text stage.scene) first) w.trace))

-- the same lines with the numbers of nodes and fields
abbrev pub changes_from : StageView → ℕ → Result (List ℕ) LookFault
changes_from stage first =
    of_world (world_in stage.held) (λ w. Ok (flat_map (from_on change_text first) w.trace))

abbrev pub of_held : Held → (Scripted → List ℕ) → Result (List ℕ) LookFault
of_held (Running w) text = Ok (text w)
of_held (Spoiled n) text = Err look.Spoiled

-- the text of the current scene
abbrev pub scene_now : StageView → Result (List ℕ) LookFault
scene_now stage = of_held stage.held (scene_text stage.scene stage.routes)

abbrev pub shot_of : List ℕ → ℕ → SceneView → Held → Result (List ℕ) SaveFault
shot_of mark boot scene (Running w) = Ok (shot mark boot scene w)
shot_of mark boot scene (Spoiled n) = Err save.Spoiled

-- the snapshot of the world, for the scene with this mark, taken as a boot
abbrev pub snapshot_in : StageView → (mark : List ℕ) → (boot : ℕ) → Result (List ℕ) SaveFault
snapshot_in stage mark boot = shot_of mark boot stage.scene stage.held

-- the word for a node's type
abbrev pub type_in : SceneView → ℕ → Result (List ℕ) LookFault
type_in scene node = or_fault look.NoSuchNode (option_map node_type_name (type_at scene node))

-- the label of a node
abbrev pub label_in : SceneView → ℕ → Result (List ℕ) LookFault
label_in scene node =
    or_fault look.NoSuchNode (option_map (λ _. label_of scene node) (type_at scene node))

-- the name of a field
abbrev pub field_in : SceneView → ℕ → ℕ → Result (List ℕ) LookFault
field_in scene node field =
    if nat_lt field (length (rows_at scene node))
    then Ok (field_name scene (record { node = node; field = field }))
    else Err look.NoSuchField

-- why a field has no value: there is no such field, or it only sends or takes events
abbrev pub value_fault : SceneView → ℕ → ℕ → LookFault
value_fault scene node field =
    if nat_lt field (length (rows_at scene node)) then look.NoValue else look.NoSuchField

-- the text of a field's value
abbrev pub value_in : StageView → ℕ → ℕ → Result (List ℕ) LookFault
value_in stage node field =
    of_world (world_in stage.held)
    (λ w. or_fault (value_fault stage.scene node field)
    (option_map value_text (value_now stage.scene w.fields node field)))

-- ---- numbers

-- the roots
abbrev pub roots_in : SceneView → Result (List ℤ) LookFault
roots_in scene = Ok (flat_map node_numbers scene.roots)

-- the list `children` of a node
abbrev pub children_in : SceneView → ℕ → Result (List ℤ) LookFault
children_in scene node =
    or_fault look.NoSuchNode
    (option_map (λ _. flat_map node_numbers (children_of scene node)) (type_at scene node))

-- the numbers of a field's value
abbrev pub numbers_in : StageView → ℕ → ℕ → Result (List ℤ) LookFault
numbers_in stage node field =
    of_world (world_in stage.held)
    (λ w. or_fault (value_fault stage.scene node field)
    (option_map numbers_of (value_now stage.scene w.fields node field)))

-- the node and the kind of each script
abbrev pub scripts_listed : SceneView → Result (List ℤ) LookFault
scripts_listed scene = Ok (scripts_in scene)

-- the node and the field of a route's source, and those of its target
abbrev pub route_numbers : Route → List ℤ
route_numbers route =
    pos route.source.node ∷ pos route.source.field ∷ pos route.target.node
    ∷ pos route.target.field ∷ []

-- those of each route
abbrev pub routes_listed : List Route → Result (List ℤ) LookFault
routes_listed routes = Ok (flat_map route_numbers routes)

-- the fields that inputs after a number set, each once, and the numbers of their current values
abbrev pub changed_in : StageView → (since : ℕ) → Result Listing LookFault
changed_in stage since =
    of_world (world_in stage.held)
    (λ w. Ok (changes_after stage.scene w.fields w.trace since))

-- ---- rays

-- where a hit is, and the sensors that it concerns
abbrev pub met_at : SceneView → List Fields → Option Hit → Option ListEntry × List ℤ
met_at scene state None = (None, [])
met_at scene state (Some hit) = (
  Some (record { n = hit.n; m = hit.m }),
  flat_map node_numbers (sensors_of scene state hit.path),
)

-- the same for what a ray hits first
abbrev pub meeting_in : StageView → RayView → Result (Option ListEntry × List ℤ) LookFault
meeting_in stage ray =
    of_world (world_in stage.held)
    (λ w. Ok (met_at stage.scene w.fields (hit_by stage.scene w.fields ray)))
