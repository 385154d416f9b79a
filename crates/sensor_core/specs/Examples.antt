-- Two viewers at one TouchSensor, step by step.
use Rattle.std.specs.Prelude.{◌≡◌, pos, true, false, List, [], ◌∷◌, Some, None}
use Rattle.x3d_values.specs.declared.value.Value.TheVariants.{SFBool, SFVec3f}
use Rattle.x3d_values.specs.declared.vector.Vec3.{Vec3}
use Rattle.react_core.specs.declared.outbox.SentEvent.{SentEvent}
use Rattle.react_core.specs.Reaction.{reply}
use Rattle.sensor_core.specs.declared.touch.Pointed.{Pointed}
use Rattle.sensor_core.specs.declared.touch_numbers.TheConstants.{IS_OVER, HIT_POINT_CHANGED, IS_PRESSED}
use Rattle.sensor_core.specs.Touches.{TouchStateView, pointer, untouched, point}

-- what a sensor sends at each of these pointers in turn
unfoldable pub replies_at_each : TouchStateView → List Pointed → List (List SentEvent)
replies_at_each touch [] = []
replies_at_each touch (pointed ∷ others) =
    (point touch pointed (pos 1)).replies
    ∷ replies_at_each (point touch pointed (pos 1)).touch others

abbrev hit : Vec3
hit = record { x = pos 0; y = pos 0; z = pos 1000000 }

abbrev at_hit : List SentEvent
at_hit = reply HIT_POINT_CHANGED (SFVec3f hit) ∷ []

-- both come; 0 presses, then 1, which changes nothing; 0 releases outside, then 1 does
abbrev pub two_pointers : List Pointed
two_pointers =
    pointer 0 false false (Some hit)
    ∷ pointer 1 false false (Some hit)
    ∷ pointer 0 false true (Some hit)
    ∷ pointer 1 false true (Some hit)
    ∷ pointer 0 true false None
    ∷ pointer 1 true false None
    ∷ []

abbrev pub two_pointers_replies : List (List SentEvent)
two_pointers_replies =
    (reply IS_OVER (SFBool true) ∷ at_hit)
    ∷ at_hit
    ∷ (reply HIT_POINT_CHANGED (SFVec3f hit) ∷ reply IS_PRESSED (SFBool true) ∷ [])
    ∷ []
    ∷ (reply IS_PRESSED (SFBool false) ∷ [])
    ∷ (reply IS_OVER (SFBool false) ∷ [])
    ∷ []

abbrev pub TwoPointers : Type 0
TwoPointers = replies_at_each untouched two_pointers ≡ two_pointers_replies
