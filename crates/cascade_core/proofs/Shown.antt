-- What answers do to the boxes that rays hit.
use Rattle.std.proofs.Common.{◌≡◌, ℕ, ℤ, Bool, true, false, List, [], ◌∷◌, ◌∙◌, ap, sym, refl, zero, suc, Option, Some, None}
use Rattle.std.specs.Prelude.{◌&&◌, slice_get, slice_set, if◌then◌else◌}
use Rattle.x3d_values.specs.declared.fields.Fields.{Fields}
use Rattle.x3d_values.specs.declared.node_type.NodeType.{NodeType}
use Rattle.x3d_values.specs.declared.node_type.NodeType.TheVariants as type
use Rattle.x3d_values.specs.declared.value.Value.{Value}
use Rattle.x3d_values.specs.Tables.{FieldRowView}
use Rattle.react_core.specs.Reaction.{is_time_sensor}
use Rattle.sensor_core.specs.Timing.{TimeFieldsView, timing_of}
use Rattle.sensor_plane.specs.declared.meeting.SensorPointer.{SensorPointer}
use Rattle.sensor_plane.specs.declared.pointing.PointingState.{PointingState}
use Rattle.scene_core.specs.Places.{is_pointing}
use Rattle.scene_core.specs.Scene.{SceneView, shapes_of, type_at, types_of}
use Rattle.scene_core.specs.Shape.{Shape, rows_of as shape_rows}
use Rattle.scene_core.specs.declared.scene.End.{End}
use Rattle.pick_core.specs.Sensors.{is_enabled, is_enabled_as}
use Rattle.pick_core.specs.Sites.{IsSameBut, rows_of}
use Rattle.pick_core.proofs.Alike.{alike_but, alike_rows}
use Rattle.cascade_world.specs.Access.{is_set}
use Rattle.cascade_world.specs.Answers.{NodeAnswer, answer, answer_as, answer_by, forgetting, is_script, is_met, keeping, meeting, met, met_as, not_run, nothing, reacting, setting, setting_at, ticked, ticking, ticking_at, touching, turns_off}
use Rattle.cascade_world.specs.Nodes.{moves_boxes}
use Rattle.cascade_world.specs.declared.world.WorldData.{WorldData}

-- ---- an answer changes the fields of its node alone

set_other : {X : Type 0} (xs : List X) (i : ℕ) (x : X) (k : ℕ) → (k ≡ i → ⊥) → slice_get xs k ≡ slice_get (slice_set xs i x) k
set_other [] i x k n = refl
set_other (y ∷ ys) zero x zero n = absurd (n refl)
set_other (y ∷ ys) zero x (suc k) n = refl
set_other (y ∷ ys) (suc i) x zero n = refl
set_other (y ∷ ys) (suc i) x (suc k) n = set_other ys i x k (λ e. n (ap suc e))

reacting-same : (w : WorldData) (target : End) (v : Value) (kind : NodeType) (fields : Option Fields) → IsSameBut target.node w.fields (reacting w target v kind fields).fields
reacting-same w target v kind None k n = refl
reacting-same w target v kind (Some fields) k n = set_other w.fields target.node _ k n

setting-same : (w : WorldData) (target : End) (v : Value) (fields : Fields) (timing : Option TimeFieldsView) (cycle : Option (Option ℕ)) →
    IsSameBut target.node w.fields (setting w target v fields timing cycle).fields
setting-same w target v fields None cycle k n = refl
setting-same w target v fields (Some timing) None k n = refl
setting-same w target v fields (Some timing) (Some cycle) k n = set_other w.fields target.node _ k n

setting_at-same : (w : WorldData) (target : End) (v : Value) (fields : Option Fields) → IsSameBut target.node w.fields (setting_at w target v fields).fields
setting_at-same w target v None k n = refl
setting_at-same w target v (Some fields) k n = setting-same w target v fields (timing_of fields) (slice_get w.sensors target.node) k n

touching-fields : (w : WorldData) (target : End) (v : Value) (kind : NodeType) (fields : Option Fields) → (touching w target v kind fields).fields ≡ (reacting w target v kind fields).fields
touching-fields w target v kind fields = off (turns_off kind target.field v) (reacting w target v kind fields)
  where
    off : (b : Bool) (a : NodeAnswer) → (if b then forgetting w target.node kind a (slice_get w.pointing target.node) else a).fields ≡ a.fields
    off true a = refl
    off false a = refl

touching-same : (w : WorldData) (target : End) (v : Value) (kind : NodeType) (fields : Option Fields) → IsSameBut target.node w.fields (touching w target v kind fields).fields
touching-same w target v kind fields k n =
    reacting-same w target v kind fields k n ∙ ap (λ (fs : List Fields). slice_get fs k) (sym (touching-fields w target v kind fields))

not_run-same : (w : WorldData) (target : End) (v : Value) (field : Option FieldRowView) (fields : Option Fields) → IsSameBut target.node w.fields (not_run w target v field fields).fields
not_run-same w target v field None k n = refl
not_run-same w target v field (Some fields) k n = kept (is_set v field)
  where
    kept : (b : Bool) → slice_get w.fields k ≡ slice_get (if b then keeping w target v fields else nothing w).fields k
    kept true = set_other w.fields target.node _ k n
    kept false = refl

answer_by-same : (w : WorldData) (target : End) (v : Value) (kind : NodeType) (field : Option FieldRowView) → IsSameBut target.node w.fields (answer_by w target v kind field).fields
answer_by-same w target v kind field k n = by_time (is_time_sensor kind) (is_pointing kind) (is_script kind)
  where
    by_time : (time touch script : Bool) → slice_get w.fields k ≡ slice_get (if time
        then setting_at w target v (slice_get w.fields target.node)
        else (if touch
        then touching w target v kind (slice_get w.fields target.node)
        else (if script
        then not_run w target v field (slice_get w.fields target.node)
        else reacting w target v kind (slice_get w.fields target.node)))).fields k
    by_time true touch script = setting_at-same w target v (slice_get w.fields target.node) k n
    by_time false true script = touching-same w target v kind (slice_get w.fields target.node) k n
    by_time false false true = not_run-same w target v field (slice_get w.fields target.node) k n
    by_time false false false = reacting-same w target v kind (slice_get w.fields target.node) k n

pub answer-same : (shapes : List Shape) (w : WorldData) (target : End) (v : Value) → IsSameBut target.node w.fields (answer shapes w target v).fields
unfolding answer
answer-same shapes w target v = by_shape (slice_get shapes target.node)
  where
    by_shape : (shape : Option Shape) → IsSameBut target.node w.fields (answer_as w target v shape).fields
    by_shape None k n = refl
    by_shape (Some shape) k n = answer_by-same w target v shape.node_type (slice_get (shape_rows shape) target.field) k n

-- ---- a ray sees nothing of the fields of other nodes than Transforms and Switches

unmoved : (kind : Option NodeType) → moves_boxes kind ≡ false → (kind ≡ Some type.Transform → ⊥) × (kind ≡ Some type.Switch → ⊥)
unmoved kind h = (λ e. not_moved type.Transform refl e, λ e. not_moved type.Switch refl e)
  where
    not_moved : (t : NodeType) → moves_boxes (Some t) ≡ true → kind ≡ Some t → ⊥
    not_moved t is e = let moved : moves_boxes kind ≡ true = rw e is in absurd (cc)

pub answer-rows : (scene : SceneView) (w : WorldData) (target : End) (v : Value) → moves_boxes (slice_get (types_of scene) target.node) ≡ false →
    rows_of scene w.fields ≡ rows_of scene (answer (shapes_of scene) w target v).fields
answer-rows scene w target v h =
    let u = unmoved (slice_get (types_of scene) target.node) h in
    alike_rows scene w.fields (answer (shapes_of scene) w target v).fields
    (alike_but scene target.node w.fields (answer (shapes_of scene) w target v).fields u.0 u.1 (answer-same (shapes_of scene) w target v))

-- ---- ticks change no field

ticking-fields : (w : WorldData) (node : ℕ) (now : ℤ) (timing : Option TimeFieldsView) (cycle : Option (Option ℕ)) → (ticking w node now timing cycle).fields ≡ w.fields
ticking-fields w node now None cycle = refl
ticking-fields w node now (Some timing) None = refl
ticking-fields w node now (Some timing) (Some cycle) = refl

ticking_at-fields : (w : WorldData) (node : ℕ) (now : ℤ) (own : Option Fields) → (ticking_at w node now own).fields ≡ w.fields
ticking_at-fields w node now None = refl
ticking_at-fields w node now (Some fields) = ticking-fields w node now (timing_of fields) (slice_get w.sensors node)

pub ticked-fields : (w : WorldData) (node : ℕ) (now : ℤ) → (ticked w node now).fields ≡ w.fields
unfolding ticked
ticked-fields w node now = ticking_at-fields w node now (slice_get w.fields node)

-- ---- a pointer changes the offset of a PlaneSensor alone, which moves no box

meeting-same : (w : WorldData) (node : ℕ) (at : SensorPointer) (state : PointingState) (own : Option Fields) → IsSameBut node w.fields (meeting w node at state own).fields
meeting-same w node at state None k n = refl
meeting-same w node at state (Some fields) k n = set_other w.fields node _ k n

sensor-still : (kind : Option NodeType) (own : Option Fields) → is_enabled_as kind own ≡ true → moves_boxes kind ≡ false
sensor-still (Some type.TouchSensor) own h = refl
sensor-still (Some type.PlaneSensor) own h = refl
sensor-still _ own h = absurd cc

first : (a b : Bool) → (a && b) ≡ true → a ≡ true
first true b h = refl
first false b h = absurd cc

pub met-rows : (scene : SceneView) (w : WorldData) (node : ℕ) (at : SensorPointer) → rows_of scene w.fields ≡ rows_of scene (met scene w node at).fields
unfolding met is_enabled
met-rows scene w node at = by-state (slice_get w.pointing node)
  where
    still : (state : PointingState) → is_met scene w node state ≡ true → moves_boxes (type_at scene node) ≡ false
    still state on = sensor-still (type_at scene node) (slice_get w.fields node) (first (is_enabled scene w.fields node) _ on)

    on-met : (state : PointingState) → is_met scene w node state ≡ true → rows_of scene w.fields ≡ rows_of scene (meeting w node at state (slice_get w.fields node)).fields
    on-met state on =
        let u = unmoved (type_at scene node) (still state on) in
        let new = (meeting w node at state (slice_get w.fields node)).fields in
        alike_rows scene w.fields new (alike_but scene node w.fields new u.0 u.1 (meeting-same w node at state (slice_get w.fields node)))

    cases : (state : PointingState) (b : Bool) → is_met scene w node state ≡ b →
        rows_of scene w.fields ≡ rows_of scene (if b then meeting w node at state (slice_get w.fields node) else nothing w).fields
    cases state true on = on-met state on
    cases state false on = refl

    by-state : (o : Option PointingState) → rows_of scene w.fields ≡ rows_of scene (met_as scene w node at o).fields
    by-state None = refl
    by-state (Some state) = cases state (is_met scene w node state) refl
