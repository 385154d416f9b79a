-- Laws of worlds with scripts.
use Rattle.std.specs.Prelude.{◌≡◌, ◌⊎◌, List, [], Option, None, true, false, length, IsSomeAnd}
use Rattle.x3d_values.specs.declared.script.Kind.{Kind}
use Rattle.x3d_values.specs.Stamp.{StampedView}
use Rattle.scene_core.specs.declared.scene.Route.{Route}
use Rattle.scene_core.specs.Scene.{SceneView}
use Rattle.script_slots.specs.Settling.{all_differ}
use Rattle.script_host.specs.Hosting.{SlotView}
use Rattle.script_running.specs.Acting.{kinds_of}
use Rattle.cascade_core.specs.Apply.{after_input, world}
use Rattle.cascade_core.specs.Course.{CourseView, Wiring}
use Rattle.cascade_core.specs.Held.{Held, is_spoiled}
use Rattle.cascade_core.specs.Installing.{RefusesBox}
use Rattle.cascade_core.specs.Scripts.{kinds_in}
use Rattle.cascade_core.specs.Settles.{next_due, settle}
use Rattle.cascade_core.specs.declared.fault.PlaceFault.{PlaceFault}
use Rattle.cascade_core.specs.declared.fault.PlaceFault.TheVariants.{Memory}

-- no input changes the kind of a script or the number of scripts
abbrev pub KindsStand : Type 0
KindsStand = (scene : SceneView) (wiring : Wiring) (c : CourseView) (input : StampedView)
    → kinds_of (after_input scene wiring c input).scripts ≡ kinds_of c.scripts

-- a world has a state for each script of its scene
abbrev pub StatesStand : Type 0
StatesStand = (scene : SceneView) (routes : List Route) (inputs : List StampedView)
    → length (world scene routes inputs).states ≡ length (kinds_in scene)

-- settling leaves no script due, and settles each script at most once
abbrev pub SettlesAll : Type 0
SettlesAll = (wiring : Wiring) (c : CourseView) → c.settling.settled ≡ []
    → (next_due (settle wiring c) ≡ None) × (all_differ (settle wiring c).settling.settled ≡ true)

-- a stage that isn't spoiled refuses a box for at most one reason, unless memory runs out; if it
-- refuses, the box is not of the script's kind
abbrev pub PlacesOne : Type 0
PlacesOne = (held : Held) (old : Option SlotView) (kind : Kind) (one other : PlaceFault)
    → is_spoiled held ≡ false → RefusesBox one held old kind
    → (one ≡ Memory)
    ⊎ ((RefusesBox other held old kind → one ≡ other)
    × (IsSomeAnd old (λ r. kind ≡ r.kind) → ⊥))
