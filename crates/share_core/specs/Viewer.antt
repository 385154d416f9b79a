-- A viewer as its contracts see it.
use Rattle.std.specs.Prelude.{ℕ, ◌+◌, ◌-◌, Bool, true, false, List, Option}
use Rattle.x3d_values.specs.Stamp.{StampedView}
use Rattle.scene_core.specs.declared.scene.Route.{Route}
use Rattle.scene_core.specs.Scene.{SceneView}
use Rattle.cascade_core.specs.Course.{Scripted}
use Rattle.cascade_core.specs.Forgetting.{forget}
use Rattle.cascade_core.specs.Held.{Held, StageView}
use Rattle.cascade_core.specs.Held as held
use Rattle.share_law.specs.Cascade.{cascade}
use Rattle.share_law.specs.Machine.{Machine}
use Rattle.share_law.specs.Pieces.{Gathering}
use Rattle.share_law.specs.Viewer.{ViewerWorld, Spoiled, Running, ViewerState, with_view}

-- the mark of the scene, the viewer's number, the scene and its routes, the state of the viewer in
-- the law, and what it gathers of a snapshot
pub record ViewerView : Type 0 where
  pub mark : List ℕ
  pub who : ℕ
  pub scene : SceneView
  pub routes : List Route
  pub state : ViewerState Scripted
  pub gathering : Option Gathering

-- the machine of the worlds that the viewer may hold
abbrev pub machine_of : ViewerView → Machine Scripted
machine_of v = cascade v.mark v.scene v.routes

-- the same viewer in another state: another world, other offers or another boot
abbrev pub with_state : ViewerView → ViewerState Scripted → ViewerView
with_state v state = record v { state = state }

-- the same viewer with other pieces of a snapshot
abbrev pub with_gathering : ViewerView → Option Gathering → ViewerView
with_gathering v held = record v { gathering = held }

-- the world of a viewer, given what its stage holds and its window
abbrev pub view_of : Held → List (Option StampedView) → ViewerWorld Scripted
view_of (held.Running w) window = Running w window
view_of (held.Spoiled count) window = Spoiled count

-- what the stage of a viewer holds
abbrev pub held_in : ViewerWorld Scripted → Held
held_in (Running w window) = held.Running w
held_in (Spoiled count) = held.Spoiled count

-- the stage of a viewer
abbrev pub stage_in : ViewerView → StageView
stage_in v = record { scene = v.scene; routes = v.routes; held = held_in v.state.view }

abbrev pub is_spoiled : ViewerWorld Scripted → Bool
is_spoiled (Running w window) = false
is_spoiled (Spoiled count) = true

-- a fact about the world of a viewer, if it runs
abbrev pub IfRunning : ViewerWorld Scripted → (Scripted → Type 0) → Type 0
IfRunning (Running w window) P = P w
IfRunning (Spoiled count) P = Unit {0}

-- a fact about a viewer, if it is spoiled
abbrev pub IfSpoiled : ViewerWorld Scripted → Type 0 → Type 0
IfSpoiled (Running w window) P = Unit {0}
IfSpoiled (Spoiled count) P = P

-- a viewer that has forgotten the lines of its trace of all inputs but the last n
abbrev pub forgot_in : (last : ℕ) → ViewerWorld Scripted → ViewerWorld Scripted
forgot_in last (Running w window) = Running (forget (w.world.applied + 1 - last) w) window
forgot_in last (Spoiled count) = Spoiled count

abbrev pub forgot_but : (last : ℕ) → ViewerState Scripted → ViewerState Scripted
forgot_but last x = with_view x (forgot_in last x.view)
