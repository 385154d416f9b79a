-- Worlds that are installed in a stage, and boxes that replace others.
use Rattle.std.specs.Prelude.{◌≡◌, ◌≢◌, ◌⊎◌, ℤ, List, length, Option, true}
use Rattle.x3d_values.specs.declared.script.Kind.{Kind}
use Rattle.scene_core.specs.Scene.{SceneView}
use Rattle.script_host.specs.Attaching.{RefusesPlace}
use Rattle.script_host.specs.Hosting.{SlotView}
use Rattle.script_host.specs.Restoring.{AreStates, IsFirstFault}
use Rattle.script_host.specs.declared.fault.ReplaceFault.TheVariants as place
use Rattle.script_slots.specs.declared.fault.StateFault.{StateFault}
use Rattle.script_slots.specs.declared.fault.StateFault.TheVariants.{StateLength, StateRange, Memory}
use Rattle.cascade_core.specs.Scripts.{scripts_in}
use Rattle.cascade_core.specs.Held.{Held, StageView, is_spoiled, spoiled}
use Rattle.cascade_core.specs.declared.fault.PlaceFault.{PlaceFault}
use Rattle.cascade_core.specs.declared.fault.PlaceFault.TheVariants as fault

-- there is a state for each script of the scene
abbrev pub StatesFit : SceneView → List (List ℤ) → Type 0
StatesFit scene states = AreStates (scripts_in scene) states

-- why a world isn't installed in a stage, and the stage afterwards
abbrev pub RefusesInstall : StateFault → StageView → List (List ℤ) → StageView → Type 0
RefusesInstall StateLength old states new = (new ≡ old)
    × ((length (scripts_in old.scene) ≢ length states)
    ⊎ IsFirstFault StateLength (scripts_in old.scene) states)
RefusesInstall StateRange old states new = (new ≡ old)
    × IsFirstFault StateRange (scripts_in old.scene) states
RefusesInstall Memory old states new = StatesFit old.scene states × (new ≡ spoiled old)

-- why a box of this kind doesn't replace a script of a stage
abbrev pub RefusesBox : PlaceFault → Held → Option SlotView → Kind → Type 0
RefusesBox fault.Spoiled held old kind = is_spoiled held ≡ true
RefusesBox fault.NoSuchScript held old kind = RefusesPlace place.NoSuchScript old kind
RefusesBox fault.KindDiffers held old kind = RefusesPlace place.KindDiffers old kind
RefusesBox fault.Memory held old kind = RefusesPlace place.Memory old kind
