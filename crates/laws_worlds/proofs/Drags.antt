-- Drags lead to their sensors: what a node does keeps that.
use Rattle.std.proofs.Common.{◌≡◌, ◌==◌, ℕ, zero, suc, ◌+◌, ℤ, Bool, true, false, if◌then◌else◌, List, [], ◌∷◌, map, Option, Some, None, slice_get, slice_set, refl, sym, subst, arith}
use Rattle.byte_codec.proofs.Laws.{both, and_true}
use Rattle.x3d_values.specs.declared.fields.Fields.{Fields}
use Rattle.x3d_values.specs.declared.node_type.NodeType.{NodeType}
use Rattle.x3d_values.specs.declared.node_type.NodeType.TheVariants.{Group, PlaneSensor, TouchSensor}
use Rattle.x3d_values.specs.declared.value.Value.{Value}
use Rattle.x3d_values.specs.declared.vector.Vec3.{Vec3}
use Rattle.x3d_values.specs.Tables.{FieldRowView}
use Rattle.react_core.specs.Reaction.{is_time_sensor}
use Rattle.sensor_core.specs.Timing.{TimeFieldsView, timing_of}
use Rattle.sensor_plane.specs.declared.drag.Drag.{Drag}
use Rattle.sensor_plane.specs.declared.fields.PlaneFields.{PlaneFields}
use Rattle.sensor_plane.specs.declared.meeting.SensorPointer.{SensorPointer}
use Rattle.sensor_plane.specs.declared.pointer.Contact.{Contact}
use Rattle.sensor_plane.specs.declared.pointer.PlanePointer.{PlanePointer}
use Rattle.sensor_plane.specs.declared.pointing.PointingState.{PointingState}
use Rattle.sensor_plane.specs.declared.pointing.PointingState.TheVariants as state
use Rattle.sensor_plane.specs.Meeting.{dragged_by, pointed, to_plane}
use Rattle.sensor_plane.specs.PlaneFields.{plane_fields_of}
use Rattle.sensor_plane.specs.Planes.{Dragged, Plane, begun, disable, drag_at, dragged, ended, gone_on, point, presses}
use Rattle.sensor_plane.specs.Pointing.{forgotten, is_state_of, start_of}
use Rattle.scene_core.specs.declared.scene.End.{End}
use Rattle.scene_core.specs.Places.{is_pointing}
use Rattle.scene_core.specs.Scene.{SceneView}
use Rattle.scene_core.specs.Shape.{Shape, rows_of}
use Rattle.pick_core.specs.Paths.{leads_to}
use Rattle.cascade_world.specs.Access.{is_set}
use Rattle.cascade_world.specs.Answers.{NodeAnswer, answer, answer_as, answer_by, forgets, forgetting, is_met, is_script, keeping, meeting, met, met_as, not_run, nothing, reacting, setting, setting_at, ticked, ticking, ticking_at, touching, turns_off}
use Rattle.cascade_world.specs.Fits.{all_lead, drag_leads, leads}
use Rattle.cascade_world.specs.declared.world.WorldData.{WorldData}
use Rattle.laws_worlds.proofs.Rows.{some_is}

-- ---- one node among all

first_of : (k n : ℕ) → k ≡ n + 0 → n ≡ k
first_of k n e = omega (arith, e)

next_of : (k n i : ℕ) → k ≡ n + suc i → k ≡ n + 1 + i
next_of k n i e = omega (arith, e)

module _ (scene : SceneView) where
  leads-get : (n : ℕ) (states : List PointingState) (i k : ℕ) (s : PointingState) → all_lead scene n states ≡ true → slice_get states i ≡ Some s → k ≡ n + i → leads scene k s ≡ true
  leads-get n [] i k s all at e = absurd cc
  leads-get n (x ∷ states) zero k s all at e =
      let b = both (leads scene n x) (all_lead scene (n + 1) states) all in
      subst (λ (j : ℕ). leads scene j s ≡ true) (first_of k n e) (subst (λ (y : PointingState). leads scene n y ≡ true) (some_is x s at) b.0)
  leads-get n (x ∷ states) (suc i) k s all at e =
      leads-get (n + 1) states i k s (both (leads scene n x) (all_lead scene (n + 1) states) all).1 at (next_of k n i e)

  leads-set : (n : ℕ) (states : List PointingState) (i k : ℕ) (s : PointingState) → all_lead scene n states ≡ true → leads scene k s ≡ true → k ≡ n + i → all_lead scene n (slice_set states i s) ≡ true
  leads-set n [] i k s all l e = refl
  leads-set n (x ∷ states) zero k s all l e =
      let b = both (leads scene n x) (all_lead scene (n + 1) states) all in
      and_true (leads scene n s) (all_lead scene (n + 1) states) (subst (λ (j : ℕ). leads scene j s ≡ true) (sym (first_of k n e)) l) b.1
  leads-set n (x ∷ states) (suc i) k s all l e =
      let b = both (leads scene n x) (all_lead scene (n + 1) states) all in
      and_true (leads scene n x) (all_lead scene (n + 1) (slice_set states i s)) b.0 (leads-set (n + 1) states i k s b.1 l (next_of k n i e))

  start_leads : (n : ℕ) (t : NodeType) → leads scene n (start_of t) ≡ true
  start_leads n TouchSensor = refl
  start_leads n PlaneSensor = refl
  start_leads n Group = refl
  start_leads n _ = refl

  -- a world begins without drags
  pub starts_lead : (n : ℕ) (types : List NodeType) → all_lead scene n (map start_of types) ≡ true
  starts_lead n [] = refl
  starts_lead n (t ∷ types) = and_true (leads scene n (start_of t)) (all_lead scene (n + 1) (map start_of types)) (start_leads n t) (starts_lead (n + 1) types)

  -- ---- one sensor

  forgotten_leads : (n : ℕ) (s : PointingState) → leads scene n (forgotten s).state ≡ true
  unfolding disable
  forgotten_leads n state.NoSensor = refl
  forgotten_leads n (state.Touch touch) = refl
  forgotten_leads n (state.Plane plane) = refl

  -- a drag that may begin at the contact leads to the sensor
  abbrev pub ContactLeads : ℕ → Option Contact → Type 0
  ContactLeads n o = (c : Contact) → o ≡ Some c → leads_to scene None c.path n ≡ true

  either : (n : ℕ) (b : Bool) (x y : Dragged) → drag_leads scene n x.drag ≡ true → drag_leads scene n y.drag ≡ true → drag_leads scene n (if◌then◌else◌ {A = Dragged} b x y).drag ≡ true
  either n true x y p q = p
  either n false x y p q = q

  module _ (n : ℕ) (fields : PlaneFields) (pointer : PlanePointer) where
    begun_leads : (o : Option Contact) → ContactLeads n o → drag_leads scene n (begun fields pointer o).drag ≡ true
    begun_leads None l = refl
    begun_leads (Some contact) l = either n (presses pointer) _ _ (l contact refl) refl

    same_way : (drag : Drag) (tracked : Option Vec3) → drag_leads scene n (Some drag) ≡ true → drag_leads scene n (Some (drag_at fields drag tracked)) ≡ true
    same_way drag None l = l
    same_way drag (Some at) l = l

    ended_leads : (drag : Drag) → drag_leads scene n (ended fields drag).drag ≡ true
    ended_leads drag = either n fields.auto_offset _ _ refl refl

    dragged_leads : (drag : Option Drag) → ContactLeads n pointer.contact → drag_leads scene n drag ≡ true → drag_leads scene n (dragged fields pointer drag).drag ≡ true
    dragged_leads None c l = begun_leads pointer.contact c
    dragged_leads (Some drag) c l =
        either n (pointer.who == drag.presser) (gone_on fields pointer drag) _
        (either n pointer.down _ (ended fields drag) (same_way drag pointer.tracked l) (ended_leads drag)) l

  by_fields : (n : ℕ) (plane : Plane) (fields : Fields) (at : SensorPointer) (o : Option PlaneFields) → ContactLeads n at.contact → drag_leads scene n plane.drag ≡ true → leads scene n (dragged_by plane fields at o).state ≡ true
  unfolding point
  by_fields n plane fields at None c l = l
  by_fields n plane fields at (Some values) c l = dragged_leads n values (to_plane at) plane.drag c l

  pointed_leads : (n : ℕ) (s : PointingState) (fields : Fields) (at : SensorPointer) (time : ℤ) → ContactLeads n at.contact → leads scene n s ≡ true → leads scene n (pointed s fields at time).state ≡ true
  unfolding pointed
  pointed_leads n state.NoSensor fields at time c l = refl
  pointed_leads n (state.Touch touch) fields at time c l = refl
  pointed_leads n (state.Plane plane) fields at time c l = by_fields n plane fields at (plane_fields_of fields) c l

  -- ---- the answers of nodes

  module _ (w : WorldData) (all : all_lead scene 0 w.pointing ≡ true) where
    abbrev pub Lead : NodeAnswer → Type 0
    Lead a = all_lead scene 0 a.pointing ≡ true

    same_number : (n : ℕ) → n ≡ 0 + n
    same_number n = omega arith

    put_lead : (n : ℕ) (s : PointingState) → leads scene n s ≡ true → all_lead scene 0 (slice_set w.pointing n s) ≡ true
    put_lead n s l = leads-set 0 w.pointing n n s all l (same_number n)

    forgets_lead : (n : ℕ) (kind : NodeType) (o : Option PointingState) → all_lead scene 0 (forgets w n kind o) ≡ true
    forgets_lead n kind None = all
    forgets_lead n kind (Some s) = given (is_state_of kind s)
      where
        given : (b : Bool) → all_lead scene 0 (if b then slice_set w.pointing n (forgotten s).state else w.pointing) ≡ true
        given true = put_lead n (forgotten s).state (forgotten_leads n s)
        given false = all

    reacting_leads : (target : End) (v : Value) (kind : NodeType) (o : Option Fields) → Lead (reacting w target v kind o)
    reacting_leads target v kind None = all
    reacting_leads target v kind (Some fields) = all

    setting_leads : (target : End) (v : Value) (fields : Fields) (t : Option TimeFieldsView) (c : Option (Option ℕ)) → Lead (setting w target v fields t c)
    setting_leads target v fields None c = all
    setting_leads target v fields (Some timing) None = all
    setting_leads target v fields (Some timing) (Some cycle) = all

    sets_lead : (target : End) (v : Value) (o : Option Fields) → Lead (setting_at w target v o)
    sets_lead target v None = all
    sets_lead target v (Some fields) = setting_leads target v fields (timing_of fields) (slice_get w.sensors target.node)

    touching_leads : (target : End) (v : Value) (kind : NodeType) (o : Option Fields) → Lead (touching w target v kind o)
    touching_leads target v kind o = given (turns_off kind target.field v)
      where
        given : (b : Bool) → Lead (if b then forgetting w target.node kind (reacting w target v kind o) (slice_get w.pointing target.node) else reacting w target v kind o)
        given true = forgets_lead target.node kind (slice_get w.pointing target.node)
        given false = reacting_leads target v kind o

    not_run_leads : (target : End) (v : Value) (field : Option FieldRowView) (o : Option Fields) → Lead (not_run w target v field o)
    not_run_leads target v field None = all
    not_run_leads target v field (Some fields) = given (is_set v field)
      where
        given : (b : Bool) → Lead (if b then keeping w target v fields else nothing w)
        given true = all
        given false = all

    lead_if : (b : Bool) (x y : NodeAnswer) → Lead x → Lead y → Lead (if b then x else y)
    lead_if true x y p q = p
    lead_if false x y p q = q

    by_lead : (target : End) (v : Value) (kind : NodeType) (field : Option FieldRowView) → Lead (answer_by w target v kind field)
    by_lead target v kind field =
        let o : Option Fields = slice_get w.fields target.node in
        lead_if (is_time_sensor kind) (setting_at w target v o) _ (sets_lead target v o)
        (lead_if (is_pointing kind) (touching w target v kind o) _ (touching_leads target v kind o)
        (lead_if (is_script kind) (not_run w target v field o) (reacting w target v kind o) (not_run_leads target v field o) (reacting_leads target v kind o)))

    pub answers_lead : (shapes : List Shape) (target : End) (v : Value) → Lead (answer shapes w target v)
    unfolding answer
    answers_lead shapes target v = given (slice_get shapes target.node)
      where
        given : (o : Option Shape) → Lead (answer_as w target v o)
        given None = all
        given (Some s) = by_lead target v s.node_type (slice_get (rows_of s) target.field)

    ticking_leads : (n : ℕ) (now : ℤ) (t : Option TimeFieldsView) (c : Option (Option ℕ)) → Lead (ticking w n now t c)
    ticking_leads n now None c = all
    ticking_leads n now (Some timing) None = all
    ticking_leads n now (Some timing) (Some cycle) = all

    pub ticks_lead : (n : ℕ) (now : ℤ) → Lead (ticked w n now)
    unfolding ticked
    ticks_lead n now = given (slice_get w.fields n)
      where
        given : (o : Option Fields) → Lead (ticking_at w n now o)
        given None = all
        given (Some fields) = ticking_leads n now (timing_of fields) (slice_get w.sensors n)

    meeting_leads : (n : ℕ) (at : SensorPointer) (s : PointingState) (o : Option Fields) → ContactLeads n at.contact → leads scene n s ≡ true → Lead (meeting w n at s o)
    meeting_leads n at s None c l = all
    meeting_leads n at s (Some fields) c l = put_lead n (pointed s fields at w.last_time).state (pointed_leads n s fields at w.last_time c l)

    pub meets_lead : (n : ℕ) (at : SensorPointer) → ContactLeads n at.contact → Lead (met scene w n at)
    unfolding met
    meets_lead n at c = given (slice_get w.pointing n) refl
      where
        given : (o : Option PointingState) → slice_get w.pointing n ≡ o → Lead (met_as scene w n at o)
        given None e = all
        given (Some s) e =
            lead_if (is_met scene w n s) (meeting w n at s (slice_get w.fields n)) (nothing w)
            (meeting_leads n at s (slice_get w.fields n) c (leads-get 0 w.pointing n n s all e (same_number n))) all
