-- What a pointing sensor does keeps its ranges, whatever its type.
use Rattle.std.proofs.Common.{◌≡◌, ◌==◌, ℤ, true, List, length, refl, eq-eqb, eqb-true}
use Rattle.std.specs.Option.{option_map_or}
use Rattle.byte_codec.proofs.Laws.{both, and_true}
use Rattle.x3d_values.specs.declared.fields.Fields.{Fields}
use Rattle.x3d_values.specs.declared.node_type.NodeType.{NodeType}
use Rattle.x3d_values.specs.declared.node_type.NodeType.TheVariants.{PlaneSensor, TouchSensor}
use Rattle.x3d_values.specs.declared.ranges.TheConstants.{MAX_VIEWERS}
use Rattle.x3d_values.specs.Ranges.{coordinates_fit, is_viewer}
use Rattle.x3d_values.specs.Tables.{FieldRowView}
use Rattle.sensor_core.specs.Touches.{TouchStateView, disable, point, pointer}
use Rattle.sensor_plane.specs.declared.meeting.SensorPointer.{SensorPointer}
use Rattle.sensor_plane.specs.declared.pointing.PointingState.{PointingState}
use Rattle.sensor_plane.specs.declared.pointing.PointingState.TheVariants as state
use Rattle.sensor_plane.specs.Meeting.{PlaneMet, pointed}
use Rattle.sensor_plane.specs.PlaneParts.{contact_fits}
use Rattle.sensor_plane.specs.Pointing.{Forgotten, forgotten, pointing_fits, touch_fits}
use Rattle.snapshot_codec.specs.Trace.{is_moment}
use Rattle.laws_worlds.specs.Ranges.{fields_fit, replies_fit}
use Rattle.laws_worlds.proofs.Places.{IfInRange}
use Rattle.laws_worlds.proofs.Planes.{all_drags_fit, all_forget}
use Rattle.laws_worlds.proofs.Pointers.{Viewer, all_disables_fit, all_points_fit}

touch_right : (touch : TouchStateView) → length touch.over ≡ MAX_VIEWERS → Viewer touch.presser → touch_fits (state.Touch touch) ≡ true
touch_right touch f g = and_true _ _ (eq-eqb _ _ f) g

module _ (ds : List FieldRowView) (t : NodeType) where
  pub record MeetFits (m : PlaneMet) : Type 0 where
    pub in_state : pointing_fits t m.state ≡ true
    pub in_fields : fields_fit t ds m.fields ≡ true
    pub in_replies : replies_fit t ds m.replies ≡ true

  pub record ForgetFits (f : Forgotten) : Type 0 where
    pub in_state : pointing_fits t f.state ≡ true
    pub in_replies : replies_fit t ds f.replies ≡ true

module _ (ds : List FieldRowView) where
  -- ---- it is turned off

  pub all_forget_fit : (t : NodeType) (s : PointingState) → pointing_fits t s ≡ true → ForgetFits ds t (forgotten s)
  all_forget_fit t state.NoSensor f = record { in_state = f; in_replies = refl }
  all_forget_fit TouchSensor (state.Touch touch) f =
      let d = all_disables_fit ds touch in
      record { in_state = touch_right (disable touch).touch d.in_over d.in_presser; in_replies = d.in_replies }
  all_forget_fit PlaneSensor (state.Touch touch) f = absurd cc
  all_forget_fit _ (state.Touch touch) f = absurd cc
  all_forget_fit PlaneSensor (state.Plane plane) f = let d = all_forget ds plane in record { in_state = d.in_state; in_replies = d.in_replies }
  all_forget_fit TouchSensor (state.Plane plane) f = absurd cc
  all_forget_fit _ (state.Plane plane) f = absurd cc

  -- ---- a pointer

  touch_meets : (touch : TouchStateView) (fields : Fields) (at : SensorPointer) (now : ℤ) → touch_fits (state.Touch touch) ≡ true → fields_fit TouchSensor ds fields ≡ true → is_viewer at.who ≡ true → IfInRange at.place → is_moment now ≡ true
      → MeetFits ds TouchSensor (pointed (state.Touch touch) fields at now)
  unfolding pointed
  touch_meets touch fields at now p f v inside m =
      let b = both (length touch.over == MAX_VIEWERS) (option_map_or is_viewer touch.presser true) p in
      let r = all_points_fit ds touch at.who at.before at.down at.place now (eqb-true _ _ b.0) b.1 v inside m in
      record { in_state = touch_right (point touch (pointer at.who at.before at.down at.place) now).touch r.in_over r.in_presser; in_fields = f; in_replies = r.in_replies }

  pub all_meet_fit : (t : NodeType) (s : PointingState) (fields : Fields) (at : SensorPointer) (now : ℤ) → pointing_fits t s ≡ true → fields_fit t ds fields ≡ true → is_viewer at.who ≡ true → IfInRange at.place
      → contact_fits at.contact ≡ true → option_map_or coordinates_fit at.tracked true ≡ true → is_moment now ≡ true → MeetFits ds t (pointed s fields at now)
  unfolding pointed
  all_meet_fit t state.NoSensor fields at now p f v inside c near m = record { in_state = p; in_fields = f; in_replies = refl }
  all_meet_fit TouchSensor (state.Touch touch) fields at now p f v inside c near m = touch_meets touch fields at now p f v inside m
  all_meet_fit PlaneSensor (state.Touch touch) fields at now p f v inside c near m = absurd cc
  all_meet_fit _ (state.Touch touch) fields at now p f v inside c near m = absurd cc
  all_meet_fit PlaneSensor (state.Plane plane) fields at now p f v inside c near m =
      let d = all_drags_fit ds plane fields at now p f v c near in
      record { in_state = d.in_state; in_fields = d.in_fields; in_replies = d.in_replies }
  all_meet_fit TouchSensor (state.Plane plane) fields at now p f v inside c near m = absurd cc
  all_meet_fit _ (state.Plane plane) fields at now p f v inside c near m = absurd cc
