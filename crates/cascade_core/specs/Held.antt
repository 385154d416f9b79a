-- A stage holds the world of its scene, or is spoiled with the number of inputs applied before.
use Rattle.std.specs.Prelude.{ℕ, ℤ, Bool, true, false, List, [], ◌∷◌, Option, Some, None, if◌then◌else◌, ◌+◌, ◌==◌, int_lt, not}
use Rattle.std.specs.List.{fold}
use Rattle.x3d_values.specs.Stamp.{StampedView}
use Rattle.scene_core.specs.declared.scene.Route.{Route}
use Rattle.scene_core.specs.Scene.{SceneView}
use Rattle.cascade_core.specs.Course.{Scripted}
use Rattle.cascade_core.specs.Apply.{apply, course_after}
use Rattle.cascade_core.specs.declared.fault.ApplyFault.{ApplyFault}
use Rattle.cascade_core.specs.declared.fault.ApplyFault.TheVariants as fault
use Rattle.cascade_trace.specs.declared.trace.TraceLine.{TraceLine}
use Rattle.cascade_world.specs.declared.world.WorldData.{WorldData}

pub data Held : Type 0 where
  Running : Scripted → Held
  Spoiled : ℕ → Held

-- a scene, its routes, and its world or the mark that the stage is spoiled
pub record StageView : Type 0 where
  pub scene : SceneView
  pub routes : List Route
  pub held : Held

-- what a stage holds, from its mark and its world
abbrev pub held_of : Option ℕ → Scripted → Held
held_of None w = Running w
held_of (Some n) w = Spoiled n

-- a fact about the world of a stage that isn't spoiled
abbrev pub IfRunning : Held → (Scripted → Type 0) → Type 0
IfRunning (Running w) P = P w
IfRunning (Spoiled n) P = Unit {0}

-- a fact about a stage that is spoiled
abbrev pub IfSpoiled : Held → Type 0 → Type 0
IfSpoiled (Running w) P = Unit {0}
IfSpoiled (Spoiled n) P = P

abbrev pub is_spoiled : Held → Bool
is_spoiled (Running w) = false
is_spoiled (Spoiled n) = true

-- the world of a stage that isn't spoiled
abbrev pub world_in : Held → Option WorldData
world_in (Running w) = Some w.world
world_in (Spoiled n) = None

-- the states of the scripts of a stage that isn't spoiled
abbrev pub states_in : Held → Option (List (List ℤ))
states_in (Running w) = Some w.states
states_in (Spoiled n) = None

-- the number of inputs that a stage has applied, or had applied when it was spoiled
abbrev pub applied_of : Held → ℕ
applied_of (Running w) = w.world.applied
applied_of (Spoiled n) = n

-- the trace of a stage
abbrev pub trace_of : Held → List TraceLine
trace_of (Running w) = w.world.trace
trace_of (Spoiled n) = []

-- why a world refuses an input: the first reason that holds
abbrev pub world_refusal : WorldData → StampedView → Option ApplyFault
world_refusal w input =
    if not (input.number == w.applied + 1)
    then Some fault.NotNext
    else (if int_lt w.last_time input.time then None else Some fault.TimeNotLater)

abbrev pub refusal_of : Held → StampedView → Option ApplyFault
refusal_of (Running w) input = world_refusal w.world input
refusal_of (Spoiled n) input = Some fault.Spoiled

-- the stage with `held` in it
abbrev pub holding : StageView → Held → StageView
holding stage held = record stage { held = held }

abbrev pub after_held : SceneView → List Route → Held → StampedView → Held
after_held scene routes (Running w) input = Running (apply scene routes w input)
after_held scene routes (Spoiled n) input = Spoiled n

-- the stage after an input that is not refused
abbrev pub after : StageView → StampedView → StageView
after stage input = holding stage (after_held stage.scene stage.routes stage.held input)

-- the scripts that settle at an input that a stage doesn't refuse, in order
abbrev pub settled_in : SceneView → List Route → Held → StampedView → List ℕ
settled_in scene routes (Running w) input = (course_after scene routes w input).settling.settled
settled_in scene routes (Spoiled n) input = []

abbrev pub settled_by : StageView → StampedView → List ℕ
settled_by stage input = settled_in stage.scene stage.routes stage.held input

-- the stage after a list of inputs that are not refused
abbrev pub after_all : StageView → List StampedView → StageView
after_all stage inputs = fold after stage inputs

-- the first of two refusals, if there is one
abbrev pub first_refusal : Option ApplyFault → Option ApplyFault → Option ApplyFault
first_refusal None later = later
first_refusal (Some f) later = Some f

-- why a list of inputs is refused: the fault of the first input that is refused after those before
-- it
abbrev pub refusal_in : StageView → List StampedView → Option ApplyFault
refusal_in stage [] = None
refusal_in stage (input ∷ inputs) =
    first_refusal (refusal_of stage.held input) (refusal_in (after stage input) inputs)

-- the stage after memory ran out
abbrev pub spoiled : StageView → StageView
spoiled stage = holding stage (Spoiled (applied_of stage.held))
