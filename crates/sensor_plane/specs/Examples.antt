-- Drags of a PlaneSensor, step by step, in millionths. The values were computed by hand.
use Rattle.std.specs.Prelude.{◌≡◌, ℕ, ℤ, pos, negsuc, Bool, true, false, List, [], ◌∷◌, ◌++◌, Option, Some, None}
use Rattle.x3d_values.specs.declared.value.Value.TheVariants.{SFBool, SFVec3f}
use Rattle.x3d_values.specs.declared.vector.Vec3.{Vec3}
use Rattle.x3d_values.specs.Vectors.{pair, vector as at}
use Rattle.react_core.specs.declared.outbox.SentEvent.{SentEvent}
use Rattle.react_core.specs.Reaction.{reply}
use Rattle.sensor_plane.specs.declared.fields.PlaneFields.{PlaneFields}
use Rattle.sensor_plane.specs.declared.numbers.TheConstants.{IS_ACTIVE, IS_OVER, OFFSET, TRACK_POINT_CHANGED, TRANSLATION_CHANGED}
use Rattle.sensor_plane.specs.declared.pointer.Contact.{Contact}
use Rattle.sensor_plane.specs.declared.pointer.PlanePointer.{PlanePointer}
use Rattle.sensor_plane.specs.Planes.{Plane, PlanePointed, untouched, point, disable}

-- what a sensor sends at each of these pointers in turn
unfoldable pub sent_at_each : Plane → PlaneFields → List PlanePointer → List (List SentEvent)
sent_at_each plane fields [] = []
sent_at_each plane fields (pointer ∷ others) =
    (point plane fields pointer).replies
    ∷ sent_at_each (point plane fields pointer).plane (point plane fields pointer).fields others

-- ---- words

abbrev zero : ℤ
zero = pos 0

-- -(n + 1)
abbrev minus : ℕ → ℤ
minus n = negsuc n

abbrev over : Vec3 → Option Contact
over p = Some (record { point = p; path = 0 ∷ [] })

-- a pointer comes over the geometry, its button up
abbrev comes : ℕ → Vec3 → PlanePointer
comes who p = record { who = who; before = false; down = false; contact = over p; tracked = None }

-- the button goes down over the geometry
abbrev press : ℕ → Vec3 → PlanePointer
press who p = record { who = who; before = false; down = true; contact = over p; tracked = None }

-- the button stays down, away from the geometry; the ray meets the plane at a point, or misses it
abbrev drags : ℕ → Option Vec3 → PlanePointer
drags who p = record { who = who; before = true; down = true; contact = None; tracked = p }

-- the button goes up, away from the geometry
abbrev lets_go : ℕ → PlanePointer
lets_go who =
    record { who = who; before = true; down = false; contact = None; tracked = None }

abbrev over_is : Bool → SentEvent
over_is truth = reply IS_OVER (SFBool truth)

abbrev active_is : Bool → SentEvent
active_is truth = reply IS_ACTIVE (SFBool truth)

abbrev tracks : Vec3 → Vec3 → List SentEvent
tracks point translation =
    reply TRACK_POINT_CHANGED (SFVec3f point)
    ∷ reply TRANSLATION_CHANGED (SFVec3f translation)
    ∷ []

abbrev offset_is : Vec3 → SentEvent
offset_is p = reply OFFSET (SFVec3f p)

-- ---- pressed at 0 0 1, dragged to 2 2 1 and to 5 -2 1, up to 3 along x and y

abbrev up_to_three : PlaneFields
up_to_three = record {
  auto_offset = true;
  max_position = pair (pos 3000000) (pos 3000000);
  min_position = pair zero zero;
  offset = at zero zero zero;
}

abbrev front : Vec3
front = at zero zero (pos 1000000)

abbrev pub Dragging : Type 0
Dragging =
    sent_at_each untouched up_to_three
    (comes 0 front
    ∷ press 0 front
    ∷ drags 0 (Some (at (pos 2000000) (pos 2000000) (pos 1000000)))
    ∷ drags 0 (Some (at (pos 5000000) (minus 1999999) (pos 1000000)))
    ∷ lets_go 0
    ∷ [])
    ≡ (over_is true ∷ [])
    ∷ (active_is true ∷ [])
    ∷ (over_is false
    ∷ tracks (at (pos 2000000) (pos 2000000) (pos 1000000))
    (at (pos 2000000) (pos 2000000) zero))
    ∷ tracks (at (pos 5000000) (minus 1999999) (pos 1000000)) (at (pos 3000000) zero zero)
    ∷ (active_is false ∷ offset_is (at (pos 3000000) zero zero) ∷ [])
    ∷ []

-- ---- the minimum of y is above its maximum: y isn't clamped

abbrev free_upwards : PlaneFields
free_upwards = record up_to_three { max_position = pair (pos 3000000) (minus 999999) }

abbrev pub FreeUpwards : Type 0
FreeUpwards =
    sent_at_each untouched free_upwards
    (press 0 front
    ∷ drags 0 (Some (at (pos 6000000) (minus 5999999) (pos 1000000)))
    ∷ [])
    ≡ (over_is true ∷ active_is true ∷ [])
    ∷ (over_is false
    ∷ tracks (at (pos 6000000) (minus 5999999) (pos 1000000))
    (at (pos 3000000) (minus 5999999) zero))
    ∷ []

-- ---- without `autoOffset` each drag begins with the same offset

abbrev from_one : PlaneFields
from_one = record {
  auto_offset = false;
  max_position = pair (minus 999999) (minus 999999);
  min_position = pair zero zero;
  offset = at (pos 1000000) zero (pos 500000);
}

abbrev pub SameOffset : Type 0
SameOffset =
    sent_at_each untouched from_one
    (press 0 front
    ∷ drags 0 (Some (at (pos 2000000) zero (pos 1000000)))
    ∷ lets_go 0
    ∷ press 0 front
    ∷ drags 0 (Some (at zero (pos 4000000) (pos 1000000)))
    ∷ lets_go 0
    ∷ [])
    ≡ (over_is true ∷ active_is true ∷ [])
    ∷ (over_is false
    ∷ tracks (at (pos 2000000) zero (pos 1000000)) (at (pos 3000000) zero (pos 500000)))
    ∷ (active_is false ∷ [])
    ∷ (over_is true ∷ active_is true ∷ [])
    ∷ (over_is false
    ∷ tracks (at zero (pos 4000000) (pos 1000000))
    (at (pos 1000000) (pos 4000000) (pos 500000)))
    ∷ (active_is false ∷ [])
    ∷ []

-- ---- a ray that misses the plane sends nothing, and the last translation stays

abbrev pub AlongNoPlane : Type 0
AlongNoPlane =
    sent_at_each untouched up_to_three
    (press 0 front
    ∷ drags 0 (Some (at (pos 1000000) zero (pos 1000000)))
    ∷ drags 0 None
    ∷ lets_go 0
    ∷ [])
    ≡ (over_is true ∷ active_is true ∷ [])
    ∷ (over_is false
    ∷ tracks (at (pos 1000000) zero (pos 1000000)) (at (pos 1000000) zero zero))
    ∷ []
    ∷ (active_is false ∷ offset_is (at (pos 1000000) zero zero) ∷ [])
    ∷ []

-- ---- viewer 63 drags: the button of viewer 0 does nothing meanwhile

abbrev pub LastViewer : Type 0
LastViewer =
    sent_at_each untouched up_to_three
    (press 63 front
    ∷ press 0 front
    ∷ drags 63 (Some (at (pos 1000000) zero (pos 1000000)))
    ∷ lets_go 0
    ∷ lets_go 63
    ∷ [])
    ≡ (over_is true ∷ active_is true ∷ [])
    ∷ []
    ∷ tracks (at (pos 1000000) zero (pos 1000000)) (at (pos 1000000) zero zero)
    ∷ (over_is false ∷ [])
    ∷ (active_is false ∷ offset_is (at (pos 1000000) zero zero) ∷ [])
    ∷ []

-- ---- disabled during a drag: the drag is forgotten, and a button that is still down doesn't press

abbrev pressed : PlanePointed
pressed = point untouched up_to_three (press 0 front)

abbrev pub Forgotten : Type 0
Forgotten =
    ((disable pressed.plane).replies ∷ [])
    ++ sent_at_each (disable pressed.plane).plane pressed.fields
    (drags 0 (Some (at (pos 1000000) zero (pos 1000000))) ∷ lets_go 0 ∷ press 0 front ∷ [])
    ≡ (over_is false ∷ active_is false ∷ [])
    ∷ []
    ∷ []
    ∷ (over_is true ∷ active_is true ∷ [])
    ∷ []

pub record KeptDrags : Type 0 where
  pub free_upwards : FreeUpwards
  pub same_offset : SameOffset
  pub along_no_plane : AlongNoPlane
  pub last_viewer : LastViewer
  pub forgotten : Forgotten
