-- What a PlaneSensor does keeps its ranges.
use Rattle.std.proofs.Common.{◌≡◌, ◌==◌, ℤ, Bool, true, List, length, Option, Some, None, refl, subst, eq-eqb, eqb-true}
use Rattle.std.specs.Option.{option_map_or}
use Rattle.byte_codec.proofs.Laws.{both, and_true}
use Rattle.x3d_values.specs.declared.field_type.FieldType.TheVariants as types
use Rattle.x3d_values.specs.declared.fields.Fields.{Fields}
use Rattle.x3d_values.specs.declared.node_type.NodeType.TheVariants.{PlaneSensor}
use Rattle.x3d_values.specs.declared.ranges.TheConstants.{MAX_VIEWERS}
use Rattle.x3d_values.specs.declared.value.Value.{Value}
use Rattle.x3d_values.specs.declared.value.Value.TheVariants.{SFVec2f, SFVec3f}
use Rattle.x3d_values.specs.declared.vector.Vec2.{Vec2}
use Rattle.x3d_values.specs.declared.vector.Vec3.{Vec3}
use Rattle.x3d_values.specs.Kept.{field_value}
use Rattle.x3d_values.specs.Ranges.{coordinates_fit, is_viewer}
use Rattle.x3d_values.specs.Tables.{FieldRowView}
use Rattle.react_core.specs.declared.outbox.SentEvent.{SentEvent}
use Rattle.sensor_plane.specs.declared.fields.PlaneFields.{PlaneFields}
use Rattle.sensor_plane.specs.declared.meeting.SensorPointer.{SensorPointer}
use Rattle.sensor_plane.specs.declared.numbers.TheConstants.{AUTO_OFFSET, MAX_POSITION, MIN_POSITION, OFFSET}
use Rattle.sensor_plane.specs.declared.pointing.PointingState.TheVariants as state
use Rattle.sensor_plane.specs.Meeting.{dragged_by, pointed, to_plane}
use Rattle.sensor_plane.specs.PlaneFields.{pair_at, pair_of, plane_fields_of, triple_at, triple_of, truth_at, with_offset}
use Rattle.sensor_plane.specs.PlaneParts.{AreFitting, contact_fits, drag_fits, pair_fits}
use Rattle.sensor_plane.specs.Planes.{Plane, PlanePointed, disable, point}
use Rattle.sensor_plane.specs.Pointing.{forgotten, plane_fits}
use Rattle.sensor_plane.proofs.Fitting.{dragged_planes_fit}
use Rattle.sensor_plane.proofs.Sending.{Passes, disable_sent, point_passes}
use Rattle.snapshot_codec.specs.Fields.{kept_fits}
use Rattle.snapshot_codec.specs.Values.{value_fits, vector2, vector3}
use Rattle.laws_worlds.specs.Answers.{PlaneFit, PlaneForgets}
use Rattle.laws_worlds.specs.Ranges.{fields_fit, sent_fits}
use Rattle.laws_worlds.proofs.Reactions.{field_fits, set_fits}
use Rattle.laws_worlds.proofs.Rows.{some_is, then_some}

-- ---- values of its fields

pair_is : (v : Value) (p : Vec2) → value_fits types.SFVec2f v ≡ true → pair_of v ≡ Some p → pair_fits p ≡ true
unfolding value_fits vector2
pair_is (SFVec2f q) p f e = subst (λ (x : Vec2). pair_fits x ≡ true) (some_is q p e) f
pair_is _ p f e = absurd cc

triple_is : (v : Value) (p : Vec3) → value_fits types.SFVec3f v ≡ true → triple_of v ≡ Some p → coordinates_fit p ≡ true
unfolding value_fits vector3
triple_is (SFVec3f q) p f e = subst (λ (x : Vec3). coordinates_fit x ≡ true) (some_is q p e) f
triple_is _ p f e = absurd cc

abbrev pub made : Bool → Vec2 → Vec2 → Vec3 → PlaneFields
made auto max min offset = record { auto_offset = auto; max_position = max; min_position = min; offset = offset }

-- ---- what it sends

module _ (ds : List FieldRowView) where
  abbrev pub leaves : SentEvent → Bool
  leaves r = sent_fits PlaneSensor ds r.field r.value

  passing : Passes coordinates_fit leaves
  unfolding value_fits vector3
  passing = record {
    is_over = λ b. refl;
    is_active = λ b. refl;
    track_point = λ p h. h;
    translation = λ p h. h;
    offset = λ p h. h;
  }

  -- ---- a pointer

  pair_in : (fields : Fields) (p : Vec2) → fields_fit PlaneSensor ds fields ≡ true → pair_at fields MAX_POSITION ≡ Some p → pair_fits p ≡ true
  unfolding pair_at kept_fits
  pair_in fields p f e =
      let a = then_some pair_of (field_value fields MAX_POSITION) p e in
      pair_is a.0 p (field_fits ds PlaneSensor fields MAX_POSITION _ a.0 f refl a.1) a.2

  low_pair_in : (fields : Fields) (p : Vec2) → fields_fit PlaneSensor ds fields ≡ true → pair_at fields MIN_POSITION ≡ Some p → pair_fits p ≡ true
  unfolding pair_at kept_fits
  low_pair_in fields p f e =
      let a = then_some pair_of (field_value fields MIN_POSITION) p e in
      pair_is a.0 p (field_fits ds PlaneSensor fields MIN_POSITION _ a.0 f refl a.1) a.2

  triple_in : (fields : Fields) (p : Vec3) → fields_fit PlaneSensor ds fields ≡ true → triple_at fields OFFSET ≡ Some p → coordinates_fit p ≡ true
  unfolding triple_at kept_fits
  triple_in fields p f e =
      let a = then_some triple_of (field_value fields OFFSET) p e in
      triple_is a.0 p (field_fits ds PlaneSensor fields OFFSET _ a.0 f refl a.1) a.2

  are_fitting : (fields : Fields) (values : PlaneFields) → fields_fit PlaneSensor ds fields ≡ true → plane_fields_of fields ≡ Some values → AreFitting values
  unfolding plane_fields_of
  are_fitting fields values f e =
      let a = then_some _ (truth_at fields AUTO_OFFSET) values e in
      let b = then_some _ (pair_at fields MAX_POSITION) values a.2 in
      let c = then_some _ (pair_at fields MIN_POSITION) values b.2 in
      let d = then_some _ (triple_at fields OFFSET) values c.2 in
      subst AreFitting (some_is (made a.0 b.0 c.0 d.0) values d.2)
      (record { max = pair_in fields b.0 f b.1; min = low_pair_in fields c.0 f c.1; offset = triple_in fields d.0 f d.1 })

  offset_fits : (fields : Fields) (values : PlaneFields) → fields_fit PlaneSensor ds fields ≡ true → AreFitting values → fields_fit PlaneSensor ds (with_offset fields values) ≡ true
  unfolding kept_fits value_fits vector3
  offset_fits fields values f a = set_fits ds PlaneSensor fields OFFSET _ (SFVec3f values.offset) f refl a.offset

  drags_by : (plane : Plane) (fields : Fields) (at : SensorPointer) (o : Option PlaneFields) → plane_fields_of fields ≡ o → plane_fits (state.Plane plane) ≡ true → fields_fit PlaneSensor ds fields ≡ true
      → is_viewer at.who ≡ true → contact_fits at.contact ≡ true → option_map_or coordinates_fit at.tracked true ≡ true → PlaneFit ds (dragged_by plane fields at o)
  drags_by plane fields at None e p f v c near = record { in_state = p; in_fields = f; in_replies = refl }
  drags_by plane fields at (Some values) e p f v c near =
      let a = are_fitting fields values f e in
      let b = both (length plane.over == MAX_VIEWERS) (drag_fits plane.drag) p in
      let d : PlanePointed = point plane values (to_plane at) in
      let r = dragged_planes_fit plane values (to_plane at) (record { viewers = eqb-true _ _ b.0; drag = b.1 }) a v c in
      record {
        in_state = and_true _ _ (eq-eqb _ _ r.plane.viewers) r.plane.drag;
        in_fields = offset_fits fields d.fields f r.fields;
        in_replies = point_passes leaves passing plane values (to_plane at) b.1 a near;
      }

  pub all_drags_fit : (plane : Plane) (fields : Fields) (at : SensorPointer) (now : ℤ) → plane_fits (state.Plane plane) ≡ true → fields_fit PlaneSensor ds fields ≡ true
      → is_viewer at.who ≡ true → contact_fits at.contact ≡ true → option_map_or coordinates_fit at.tracked true ≡ true → PlaneFit ds (pointed (state.Plane plane) fields at now)
  unfolding pointed
  all_drags_fit plane fields at now p f v c near = drags_by plane fields at (plane_fields_of fields) refl p f v c near

  -- ---- it is turned off

  pub all_forget : (plane : Plane) → PlaneForgets ds (forgotten (state.Plane plane))
  unfolding disable
  all_forget plane = record { in_state = refl; in_replies = disable_sent coordinates_fit leaves passing plane }
