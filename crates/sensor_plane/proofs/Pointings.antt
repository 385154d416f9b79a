-- What is kept of nodes where viewers point.
use Rattle.std.proofs.Common.{◌≡◌, refl, ℕ, ◌==◌, Bool, true, false, is_none, is_some, Option, Some, None, if◌then◌else◌, ◌++◌, [], ◌∷◌}
use Rattle.std.proofs.lemmas.Bool.{and_parts}
use Rattle.std.specs.Option.{option_map_or}
use Rattle.x3d_values.specs.declared.node_type.NodeType.{NodeType}
use Rattle.x3d_values.specs.declared.node_type.NodeType.TheVariants.{Group, PlaneSensor, TouchSensor}
use Rattle.x3d_values.specs.declared.value.Value.TheVariants.{SFBool}
use Rattle.react_core.specs.Access.{leave_by_outputs}
use Rattle.react_core.specs.Reaction.{reply}
use Rattle.sensor_core.specs.declared.touch_numbers.TheConstants.{IS_OVER, IS_PRESSED}
use Rattle.sensor_core.specs.Touches as touches
use Rattle.sensor_plane.specs.declared.drag.Drag.{Drag}
use Rattle.sensor_plane.specs.declared.pointing.PointingState.{PointingState}
use Rattle.sensor_plane.specs.declared.pointing.PointingState.TheVariants.{NoSensor, Touch, Plane}
use Rattle.sensor_plane.specs.PlaneParts.{drag_fits}
use Rattle.sensor_plane.specs.Planes as planes
use Rattle.sensor_plane.specs.Pointing.{drag_by, forgotten, is_pressed_by, is_resting, is_state_of, pointing_fits, start_of}
use Rattle.sensor_plane.proofs.Sending.{disable_leaves}

-- what fits a node of a type is kept of nodes of that type
pub fits_type : (t : NodeType) (state : PointingState) → pointing_fits t state ≡ true → is_state_of t state ≡ true
fits_type TouchSensor NoSensor h = h
fits_type TouchSensor (Touch touch) h = refl
fits_type TouchSensor (Plane plane) h = h
fits_type PlaneSensor NoSensor h = h
fits_type PlaneSensor (Touch touch) h = h
fits_type PlaneSensor (Plane plane) h = refl
fits_type Group state h = h
fits_type _ state h = h

-- a world begins with what fits its nodes
pub starts_fit : (t : NodeType) → pointing_fits t (start_of t) ≡ true
starts_fit TouchSensor = refl
starts_fit PlaneSensor = refl
starts_fit Group = refl
starts_fit _ = refl

pub starts_resting : (t : NodeType) → is_resting (start_of t) ≡ true
starts_resting TouchSensor = refl
starts_resting PlaneSensor = refl
starts_resting Group = refl
starts_resting _ = refl

-- ---- viewers

-- nobody presses what rests
pub resting_alone : (state : PointingState) (who : ℕ) → is_resting state ≡ true → is_pressed_by state who ≡ false
resting_alone NoSensor who h = refl
resting_alone (Touch touch) who h = by touch.presser (and_parts _ _ h).1 where
  by : (presser : Option ℕ) → is_none presser ≡ true → option_map_or (λ p. p == who) presser false ≡ false
  by None e = refl
  by (Some p) e = absurd cc
resting_alone (Plane plane) who h = by plane.drag (and_parts _ _ h).1 where
  by : (drag : Option Drag) → is_none drag ≡ true → planes.pressed_by drag who ≡ false
  by None e = refl
  by (Some drag) e = absurd cc

-- who drags presses
pub drags_pressed : (state : PointingState) (who : ℕ) (drag : Drag) → drag_by state who ≡ Some drag → is_pressed_by state who ≡ true
drags_pressed NoSensor who drag h = absurd cc
drags_pressed (Touch touch) who drag h = absurd cc
drags_pressed (Plane plane) who drag h = by (planes.is_pressed_by plane who) h where
  by : (b : Bool) → (if b then plane.drag else None) ≡ Some drag → b ≡ true
  by true e = refl
  by false e = absurd cc

-- a drag of what fits is in its ranges
pub drags_fit : (t : NodeType) (state : PointingState) (who : ℕ) (drag : Drag) → pointing_fits t state ≡ true → drag_by state who ≡ Some drag → drag_fits (Some drag) ≡ true
drags_fit PlaneSensor (Plane plane) who drag f h = by (planes.is_pressed_by plane who) plane.drag (and_parts _ _ f).1 h where
  by : (b : Bool) (o : Option Drag) → drag_fits o ≡ true → (if b then o else None) ≡ Some drag → drag_fits (Some drag) ≡ true
  by true o e is = rw is at e
  by false o e is = absurd cc
drags_fit PlaneSensor NoSensor who drag f h = absurd cc
drags_fit PlaneSensor (Touch touch) who drag f h = absurd cc
drags_fit TouchSensor NoSensor who drag f h = absurd cc
drags_fit TouchSensor (Touch touch) who drag f h = absurd cc
drags_fit TouchSensor (Plane plane) who drag f h = absurd cc
drags_fit Group NoSensor who drag f h = absurd cc
drags_fit Group (Touch touch) who drag f h = absurd cc
drags_fit Group (Plane plane) who drag f h = absurd cc
drags_fit _ NoSensor who drag f h = absurd cc
drags_fit _ (Touch touch) who drag f h = absurd cc
drags_fit _ (Plane plane) who drag f h = absurd cc

-- ---- `enabled` FALSE

-- what forgets is kept of nodes of the same type, and fits
pub forgotten_typed : (t : NodeType) (state : PointingState) → is_state_of t state ≡ true → is_state_of t (forgotten state).state ≡ true
forgotten_typed t NoSensor h = h
forgotten_typed TouchSensor (Touch touch) h = h
forgotten_typed PlaneSensor (Touch touch) h = h
forgotten_typed Group (Touch touch) h = h
forgotten_typed _ (Touch touch) h = h
forgotten_typed TouchSensor (Plane plane) h = h
forgotten_typed PlaneSensor (Plane plane) h = h
forgotten_typed Group (Plane plane) h = h
forgotten_typed _ (Plane plane) h = h

pub forgotten_fits : (t : NodeType) (state : PointingState) → is_state_of t state ≡ true → pointing_fits t (forgotten state).state ≡ true
unfolding touches.disable planes.disable
forgotten_fits TouchSensor NoSensor h = h
forgotten_fits TouchSensor (Touch touch) h = refl
forgotten_fits TouchSensor (Plane plane) h = h
forgotten_fits PlaneSensor NoSensor h = h
forgotten_fits PlaneSensor (Touch touch) h = h
forgotten_fits PlaneSensor (Plane plane) h = refl
forgotten_fits Group NoSensor h = h
forgotten_fits Group (Touch touch) h = h
forgotten_fits Group (Plane plane) h = h
forgotten_fits _ NoSensor h = h
forgotten_fits _ (Touch touch) h = h
forgotten_fits _ (Plane plane) h = h

-- all leaves by outputs
touch_leaves : (over pressed : Bool) → leave_by_outputs TouchSensor ((if over then reply IS_OVER (SFBool false) ∷ [] else []) ++ (if pressed then reply IS_PRESSED (SFBool false) ∷ [] else [])) ≡ true
touch_leaves true true = refl
touch_leaves true false = refl
touch_leaves false true = refl
touch_leaves false false = refl

pub forgotten_leaves : (t : NodeType) (state : PointingState) → is_state_of t state ≡ true → leave_by_outputs t (forgotten state).replies ≡ true
unfolding touches.disable
forgotten_leaves t NoSensor h = refl
forgotten_leaves TouchSensor (Touch touch) h = touch_leaves (touches.is_over touch) (is_some touch.presser)
forgotten_leaves PlaneSensor (Plane plane) h = disable_leaves plane
forgotten_leaves TouchSensor (Plane plane) h = absurd cc
forgotten_leaves PlaneSensor (Touch touch) h = absurd cc
forgotten_leaves Group (Touch touch) h = absurd cc
forgotten_leaves Group (Plane plane) h = absurd cc
forgotten_leaves _ (Touch touch) h = absurd cc
forgotten_leaves _ (Plane plane) h = absurd cc
