-- What a PlaneSensor does with the pointers of several viewers (ISO/IEC 19775-1, pointing device
-- sensor component: PlaneSensor; what concerns more than one viewer, the limit of size, and that a
-- press only sends `isActive` are our choice).
use Rattle.std.specs.Prelude.{◌≡◌, ℕ, ◌==◌, IsFalse, ℤ, pos, neg_ℤ, ◌+ℤ◌, ◌-ℤ◌, ◌≤ℤ◌, int_le, Bool, true, false, not, is_some, ◌&&◌, List, [], ◌∷◌, ◌++◌, slice_set, replicate, Option, Some, None, if◌then◌else◌}
use Rattle.std.specs.Int.{int_min, int_max}
use Rattle.std.specs.List.{list_any}
use Rattle.x3d_values.specs.declared.ranges.TheConstants.{MAX_VIEWERS}
use Rattle.x3d_values.specs.declared.value.Value.TheVariants.{SFBool, SFVec3f}
use Rattle.x3d_values.specs.declared.vector.Vec3.{Vec3}
use Rattle.x3d_values.specs.Ranges.{is_viewer, max_coordinate}
use Rattle.react_core.specs.declared.outbox.SentEvent.{SentEvent}
use Rattle.react_core.specs.Reaction.{reply}
use Rattle.sensor_core.specs.Touches.{change_replies}
use Rattle.sensor_plane.specs.declared.drag.Drag.{Drag}
use Rattle.sensor_plane.specs.declared.fields.PlaneFields.{PlaneFields}
use Rattle.sensor_plane.specs.declared.pointer.Contact.{Contact}
use Rattle.sensor_plane.specs.declared.pointer.PlanePointer.{PlanePointer}
use Rattle.sensor_plane.specs.declared.numbers.TheConstants.{IS_ACTIVE, IS_OVER, OFFSET, TRACK_POINT_CHANGED, TRANSLATION_CHANGED}

-- whether each viewer's pointer is over the sensor, by the viewer's number; and the drag, if a
-- viewer presses
pub record Plane : Type 0 where
  pub over : List Bool
  pub drag : Option Drag

-- what the sensor keeps, what its fields are, and what it sends, in order
pub record PlanePointed : Type 0 where
  pub plane : Plane
  pub fields : PlaneFields
  pub replies : List SentEvent

-- the presser of a drag, if there is one, is a viewer
abbrev pub is_drag : Option Drag → Bool
is_drag None = true
is_drag (Some drag) = is_viewer drag.presser

-- no pointer is over the sensor, and no viewer presses it
abbrev pub untouched : Plane
untouched = record { over = replicate MAX_VIEWERS false; drag = None }

abbrev pub is_over : Plane → Bool
is_over plane = list_any (λ over. over) plane.over

abbrev pub pressed_by : Option Drag → ℕ → Bool
pressed_by None who = false
pressed_by (Some drag) who = drag.presser == who

abbrev pub is_pressed_by : Plane → ℕ → Bool
is_pressed_by plane who = pressed_by plane.drag who

-- ---- the translation of a drag

-- the distance from the start plus the offset; its absolute value is at most 10^15 millionths
abbrev pub shifted : ℤ → ℤ → ℤ → ℤ
shifted offset start at =
    int_max (neg_ℤ (pos max_coordinate))
    (int_min ((at -ℤ start) +ℤ offset) (pos max_coordinate))

-- clamped to the minimum and the maximum, if the minimum isn't above the maximum
abbrev pub clamped : ℤ → ℤ → ℤ → ℤ
clamped low high at = if int_le low high then int_max low (int_min at high) else at

abbrev pub shift : PlaneFields → Vec3 → Vec3 → Vec3
shift fields start at = record {
  x = shifted fields.offset.x start.x at.x;
  y = shifted fields.offset.y start.y at.y;
  z = shifted fields.offset.z start.z at.z;
}

-- `minPosition` and `maxPosition` clamp x and y
abbrev pub within : PlaneFields → Vec3 → Vec3
within fields at = record {
  x = clamped fields.min_position.x fields.max_position.x at.x;
  y = clamped fields.min_position.y fields.max_position.y at.y;
  z = at.z;
}

unfoldable pub translation : PlaneFields → Vec3 → Vec3 → Vec3
translation fields start at = within fields (shift fields start at)

-- ---- the steps of a drag

-- the drag after a pointer, the fields, and what is sent, in order
pub record Dragged : Type 0 where
  pub drag : Option Drag
  pub fields : PlaneFields
  pub replies : List SentEvent

-- the button goes down
abbrev pub presses : PlanePointer → Bool
presses pointer = pointer.down && not pointer.before

-- a drag starts at the point of the contact, with the offset as its translation
abbrev pub drag_from : PlaneFields → ℕ → Contact → Drag
drag_from fields who contact =
    record { presser = who; start = contact.point; last = fields.offset; path = contact.path }

-- no viewer presses yet: a button that goes down over the geometry does, and `isActive` is sent
abbrev pub begun : PlaneFields → PlanePointer → Option Contact → Dragged
begun fields pointer None = record { drag = None; fields = fields; replies = [] }
begun fields pointer (Some contact) =
    if presses pointer
    then record {
      drag = Some (drag_from fields pointer.who contact);
      fields = fields;
      replies = reply IS_ACTIVE (SFBool true) ∷ [];
    }
    else record { drag = None; fields = fields; replies = [] }

-- a drag moves to the point where its ray meets the plane
abbrev pub drag_at : PlaneFields → Drag → Option Vec3 → Drag
drag_at fields drag None = drag
drag_at fields drag (Some at) = record drag { last = translation fields drag.start at }

abbrev pub track_replies : PlaneFields → Drag → Option Vec3 → List SentEvent
track_replies fields drag None = []
track_replies fields drag (Some at) =
    reply TRACK_POINT_CHANGED (SFVec3f at)
    ∷ reply TRANSLATION_CHANGED (SFVec3f (translation fields drag.start at))
    ∷ []

-- a drag ends: `isActive` is sent, and if `autoOffset` is TRUE, the last translation becomes the
-- offset
abbrev pub ended : PlaneFields → Drag → Dragged
ended fields drag =
    if fields.auto_offset
    then record {
      drag = None;
      fields = record fields { offset = drag.last };
      replies = reply IS_ACTIVE (SFBool false) ∷ reply OFFSET (SFVec3f drag.last) ∷ [];
    }
    else record { drag = None; fields = fields; replies = reply IS_ACTIVE (SFBool false) ∷ [] }

-- the pointer of the viewer that presses
abbrev pub gone_on : PlaneFields → PlanePointer → Drag → Dragged
gone_on fields pointer drag =
    if pointer.down
    then record {
      drag = Some (drag_at fields drag pointer.tracked);
      fields = fields;
      replies = track_replies fields drag pointer.tracked;
    }
    else ended fields drag

abbrev pub dragged : PlaneFields → PlanePointer → Option Drag → Dragged
dragged fields pointer None = begun fields pointer pointer.contact
dragged fields pointer (Some drag) =
    if pointer.who == drag.presser then gone_on fields pointer drag
    else record { drag = Some drag; fields = fields; replies = [] }

-- ---- a pointer

-- after the event the pointer is over the sensor exactly if it is over the geometry
abbrev pub over_after : Plane → PlanePointer → List Bool
over_after plane pointer = slice_set plane.over pointer.who (is_some pointer.contact)

-- what an enabled sensor does with a pointer: `isOver` is sent when the first pointer comes and
-- when the last one goes
unfoldable pub point : Plane → PlaneFields → PlanePointer → PlanePointed
point plane fields pointer =
    let over = over_after plane pointer in
    let after = dragged fields pointer plane.drag in
    record {
      plane = record { over = over; drag = after.drag };
      fields = after.fields;
      replies =
          change_replies IS_OVER (is_over plane) (list_any (λ over. over) over) ++ after.replies;
    }

-- ---- `enabled` FALSE

-- what the sensor keeps, and what it sends, in order
pub record Disabled : Type 0 where
  pub plane : Plane
  pub replies : List SentEvent

-- the sensor forgets its pointers: `isOver` FALSE if one was over it, `isActive` FALSE if it was
-- pressed; the offset stays
unfoldable pub disable : Plane → Disabled
disable plane = record {
  plane = untouched;
  replies =
      (if is_over plane then reply IS_OVER (SFBool false) ∷ [] else [])
      ++ (if is_some plane.drag then reply IS_ACTIVE (SFBool false) ∷ [] else []);
}

-- ---- laws

-- the pointer of another viewer doesn't change a drag
abbrev pub DragsGoByTheirPresser : Type 0
DragsGoByTheirPresser = (fields : PlaneFields) (pointer : PlanePointer) (drag : Drag)
    → IsFalse (pointer.who == drag.presser)
    → dragged fields pointer (Some drag)
    ≡ record { drag = Some drag; fields = fields; replies = [] }

pub record IsBetween (low at high : ℤ) : Type 0 where
  pub above : low ≤ℤ at
  pub below : at ≤ℤ high

-- a translation lies between the minimum and the maximum, if the minimum isn't above the maximum
abbrev pub TranslationsAreWithin : Type 0
TranslationsAreWithin = (low high at : ℤ) → low ≤ℤ high → IsBetween low (clamped low high at) high

-- a drag at the point where it began translates by the offset, if the offset is within the limits
abbrev pub Unmoved : Type 0
Unmoved = (fields : PlaneFields) (start : Vec3)
    → IsBetween (neg_ℤ (pos max_coordinate)) fields.offset.x (pos max_coordinate)
    → IsBetween (neg_ℤ (pos max_coordinate)) fields.offset.y (pos max_coordinate)
    → IsBetween (neg_ℤ (pos max_coordinate)) fields.offset.z (pos max_coordinate)
    → within fields fields.offset ≡ fields.offset
    → translation fields start start ≡ fields.offset
