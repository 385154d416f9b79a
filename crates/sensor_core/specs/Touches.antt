-- What a TouchSensor does with the pointers of several viewers (ISO/IEC 19775-1, pointing device
-- sensor component; what concerns more than one viewer is our choice).
use Rattle.std.specs.Prelude.{◌≡◌, ℕ, ◌==◌, IsFalse, ℤ, Bool, true, false, not, is_some, is_none, ◌&&◌, ◌||◌, List, [], ◌∷◌, ◌++◌, slice_set, replicate, Option, Some, None, if◌then◌else◌}
use Rattle.std.specs.List.{list_any}
use Rattle.std.specs.Option.{option_map_or}
use Rattle.x3d_values.specs.declared.ranges.TheConstants.{MAX_VIEWERS}
use Rattle.x3d_values.specs.declared.value.Value.TheVariants.{SFBool, SFTime, SFVec3f}
use Rattle.x3d_values.specs.declared.vector.Vec3.{Vec3}
use Rattle.react_core.specs.declared.outbox.SentEvent.{SentEvent}
use Rattle.react_core.specs.Reaction.{reply}
use Rattle.sensor_core.specs.declared.touch.Pointed.{Pointed}
use Rattle.sensor_core.specs.declared.touch_numbers.TheConstants.{IS_OVER, HIT_POINT_CHANGED, IS_PRESSED, TOUCH_TIME}

-- whether each viewer's pointer is over the sensor, by the viewer's number; and the viewer that
-- presses it, if any
pub record TouchStateView : Type 0 where
  pub over : List Bool
  pub presser : Option ℕ

-- a viewer's pointer: whether its button was down until now, whether the button is down now, and
-- the point over the sensor's geometry, in the sensor's coordinates, if the pointer is over it
abbrev pub pointer : ℕ → Bool → Bool → Option Vec3 → Pointed
pointer who before down inside =
    record { who = who; before = before; down = down; inside = inside }

-- what the sensor keeps, and what it sends, in order
pub record Touched : Type 0 where
  pub touch : TouchStateView
  pub replies : List SentEvent

-- no pointer is over the sensor, and no viewer presses it
abbrev pub untouched : TouchStateView
untouched = record { over = replicate MAX_VIEWERS false; presser = None }

abbrev pub is_over : TouchStateView → Bool
is_over touch = list_any (λ over. over) touch.over

abbrev pub is_pressed_by : TouchStateView → ℕ → Bool
is_pressed_by touch who = option_map_or (λ presser. presser == who) touch.presser false

-- ---- a pointer

-- after the event the pointer is over the sensor exactly if it is inside
abbrev pub over_after : TouchStateView → Pointed → List Bool
over_after touch pointed = slice_set touch.over pointed.who (is_some pointed.inside)

-- sends a field with a truth value, if the value changes
abbrev pub change_replies : ℕ → Bool → Bool → List SentEvent
change_replies field was is =
    if was then (if is then [] else reply field (SFBool false) ∷ [])
    else (if is then reply field (SFBool true) ∷ [] else [])

-- `isOver` when the first pointer comes and when the last one goes
abbrev pub over_replies : Bool → Bool → List SentEvent
over_replies was is = change_replies IS_OVER was is

-- `hitPoint_changed` if the pointer is inside and no other viewer presses
abbrev pub hit_replies : TouchStateView → Pointed → Option Vec3 → List SentEvent
hit_replies touch pointed None = []
hit_replies touch pointed (Some point) =
    if is_none touch.presser || is_pressed_by touch pointed.who
    then reply HIT_POINT_CHANGED (SFVec3f point) ∷ []
    else []

-- the button goes down inside and no viewer presses: the viewer presses
abbrev pub presses : TouchStateView → Pointed → Bool
presses touch pointed =
    (pointed.down && not pointed.before) && (is_some pointed.inside && is_none touch.presser)

-- the button is up and the viewer presses: the viewer releases
abbrev pub releases : TouchStateView → Pointed → Bool
releases touch pointed = not pointed.down && is_pressed_by touch pointed.who

abbrev pub presser_after : TouchStateView → Pointed → Option ℕ
presser_after touch pointed =
    if presses touch pointed then Some pointed.who
    else (if releases touch pointed then None else touch.presser)

-- `touchTime` if the viewer releases inside
abbrev pub time_replies : Option Vec3 → ℤ → List SentEvent
time_replies None t = []
time_replies (Some _) t = reply TOUCH_TIME (SFTime t) ∷ []

-- `isActive`, then `touchTime`
abbrev pub press_replies : TouchStateView → Pointed → ℤ → List SentEvent
press_replies touch pointed t =
    if presses touch pointed then reply IS_PRESSED (SFBool true) ∷ []
    else (if releases touch pointed
    then reply IS_PRESSED (SFBool false) ∷ time_replies pointed.inside t
    else [])

abbrev pub touch_after : TouchStateView → Pointed → TouchStateView
touch_after touch pointed = record {
  over = over_after touch pointed;
  presser = presser_after touch pointed;
}

-- what an enabled sensor does with a pointer at time t
unfoldable pub point : TouchStateView → Pointed → ℤ → Touched
point touch pointed t =
    let after = touch_after touch pointed in
    record {
      touch = after;
      replies =
          over_replies (is_over touch) (is_over after)
          ++ hit_replies touch pointed pointed.inside
          ++ press_replies touch pointed t;
    }

-- ---- `enabled` FALSE

-- the sensor forgets its pointers: `isOver` FALSE if one was over it, `isActive` FALSE if it was
-- pressed
unfoldable pub disable : TouchStateView → Touched
disable touch = record {
  touch = untouched;
  replies =
      (if is_over touch then reply IS_OVER (SFBool false) ∷ [] else [])
      ++ (if is_some touch.presser then reply IS_PRESSED (SFBool false) ∷ [] else []);
}

-- ---- who releases

-- a viewer that presses still presses after the pointer of any other viewer
abbrev pub OneReleases : Type 0
OneReleases = (touch : TouchStateView) (pointed : Pointed) (who : ℕ) → touch.presser ≡ Some who
    → IsFalse (who == pointed.who) → presser_after touch pointed ≡ Some who
