-- One node among all, and what it does in a world.
use Rattle.std.proofs.Common.{◌≡◌, ◌==◌, ℕ, zero, suc, ℤ, Bool, true, false, ◌&&◌, ◌++◌, if◌then◌else◌, List, [], ◌∷◌, length, Option, Some, None, slice_get, slice_set, option_map, refl, sym, ap, subst, ◌∙◌}
use Rattle.std.specs.List.{list_all}
use Rattle.std.specs.Option.{option_and_then, option_map_or}
use Rattle.byte_codec.proofs.Laws.{both, and_true}
use Rattle.x3d_values.specs.declared.fields.Fields.{Fields}
use Rattle.x3d_values.specs.declared.node_type.NodeType.{NodeType}
use Rattle.x3d_values.specs.declared.node_type.NodeType.TheVariants.{PlaneSensor, TimeSensor, TouchSensor}
use Rattle.x3d_values.specs.declared.value.Value.{Value}
use Rattle.x3d_values.specs.Pointing.{PointerView}
use Rattle.x3d_values.specs.Access.{sends}
use Rattle.x3d_values.specs.declared.ranges.TheConstants.{MAX_VIEWERS}
use Rattle.x3d_values.specs.Ranges.{coordinates_fit, is_viewer}
use Rattle.x3d_values.specs.Tables.{FieldRowView}
use Rattle.react_core.specs.declared.outbox.SentEvent.{SentEvent}
use Rattle.react_core.specs.Access.{is_exposed}
use Rattle.react_core.specs.Reaction.{is_time_sensor, keeps, reaction}
use Rattle.sensor_core.specs.Timing.{TimeFieldsView, timing_of}
use Rattle.sensor_plane.specs.declared.drag.Drag.{Drag}
use Rattle.sensor_plane.specs.declared.meeting.SensorPointer.{SensorPointer}
use Rattle.sensor_plane.specs.declared.pointing.PointingState.{PointingState}
use Rattle.sensor_plane.specs.declared.pointing.PointingState.TheVariants as state
use Rattle.sensor_plane.specs.Meeting.{pointed}
use Rattle.sensor_plane.specs.PlaneParts.{contact_fits, drag_fits}
use Rattle.sensor_plane.specs.Planes.{is_pressed_by}
use Rattle.sensor_plane.specs.Pointing.{drag_by, forgotten, is_state_of, pointing_fits}
use Rattle.sensor_plane.specs.Paths.{path_fits}
use Rattle.snapshot_codec.specs.Trace.{is_moment, typed_fits}
use Rattle.snapshot_codec.specs.Values.{value_fits}
use Rattle.scene_core.specs.declared.scene.End.{End}
use Rattle.scene_core.specs.Places.{is_pointing}
use Rattle.scene_core.specs.Scene.{SceneView}
use Rattle.scene_core.specs.Shape.{Shape, rows_of}
use Rattle.cascade_world.specs.Access.{is_set}
use Rattle.cascade_world.specs.Answers.{NodeAnswer, nothing, reacting, setting, setting_at, is_script, turns_off, forgets, forgotten_by, forgetting, touching, keeping, not_run, answer_as, answer, ticking, ticking_at, ticked, is_met, meeting, met, met_as}
use Rattle.cascade_world.specs.Fits.{sent_type, output_type}
use Rattle.cascade_world.specs.Pointer.{tracked_at, tracked_by}
use Rattle.cascade_world.specs.declared.world.WorldData.{WorldData}
use Rattle.laws_worlds.specs.Ranges.{fields_fit, event_fits, sent_fits, replies_fit}
use Rattle.laws_worlds.proofs.Clocks.{all_sets_fit, all_ticks_fit, timing_is}
use Rattle.laws_worlds.proofs.Places.{IfInRange, track_fits}
use Rattle.laws_worlds.proofs.Pointers.{all_append}
use Rattle.laws_worlds.proofs.Meets.{all_forget_fit, all_meet_fit}
use Rattle.laws_worlds.proofs.Reactions.{all_reactions_fit, set_field_fits}
use Rattle.laws_worlds.proofs.Rows.{some_is}
use Rattle.laws_worlds.specs.Fits.{input_type, time_fits, node_fits, nodes_fit}

-- ---- a node among all

pub record At (s : Shape) (fs : List Fields) (cs : List (Option ℕ)) (us : List PointingState) (n : ℕ) : Type 0 where
  pub fields : Fields
  pub cycle : Option ℕ
  pub pointing : PointingState
  pub fields_is : slice_get fs n ≡ Some fields
  pub cycle_is : slice_get cs n ≡ Some cycle
  pub pointing_is : slice_get us n ≡ Some pointing
  pub fit : node_fits s fields cycle pointing ≡ true

pub nodes_at : (shapes : List Shape) (fs : List Fields) (cs : List (Option ℕ)) (us : List PointingState) (n : ℕ) (s : Shape) → nodes_fit shapes fs cs us ≡ true → slice_get shapes n ≡ Some s → At s fs cs us n
nodes_at [] fs cs us n s f e = absurd cc
nodes_at (k ∷ shapes) [] cs us n s f e = absurd cc
nodes_at (k ∷ shapes) (x ∷ fs) [] us n s f e = absurd cc
nodes_at (k ∷ shapes) (x ∷ fs) (y ∷ cs) [] n s f e = absurd cc
nodes_at (k ∷ shapes) (x ∷ fs) (y ∷ cs) (z ∷ us) zero s f e =
    let b = both (node_fits k x y z) (nodes_fit shapes fs cs us) f in
    record { fields = x; cycle = y; pointing = z; fields_is = refl; cycle_is = refl; pointing_is = refl; fit = subst (λ (q : Shape). node_fits q x y z ≡ true) (some_is k s e) b.0 }
nodes_at (k ∷ shapes) (x ∷ fs) (y ∷ cs) (z ∷ us) (suc n) s f e =
    let b = both (node_fits k x y z) (nodes_fit shapes fs cs us) f in
    let r = nodes_at shapes fs cs us n s b.1 e in
    record { fields = r.fields; cycle = r.cycle; pointing = r.pointing; fields_is = r.fields_is; cycle_is = r.cycle_is; pointing_is = r.pointing_is; fit = r.fit }

put : (shapes : List Shape) (fs : List Fields) (cs : List (Option ℕ)) (us : List PointingState) (n : ℕ) (s : Shape) (x : Fields) (y : Option ℕ) (z : PointingState) → nodes_fit shapes fs cs us ≡ true → slice_get shapes n ≡ Some s → node_fits s x y z ≡ true → nodes_fit shapes (slice_set fs n x) (slice_set cs n y) (slice_set us n z) ≡ true
put [] fs cs us n s x y z f e g = absurd cc
put (k ∷ shapes) [] cs us n s x y z f e g = absurd cc
put (k ∷ shapes) (p ∷ fs) [] us n s x y z f e g = absurd cc
put (k ∷ shapes) (p ∷ fs) (q ∷ cs) [] n s x y z f e g = absurd cc
put (k ∷ shapes) (p ∷ fs) (q ∷ cs) (r ∷ us) zero s x y z f e g =
    let b = both (node_fits k p q r) (nodes_fit shapes fs cs us) f in
    and_true _ _ (subst (λ (j : Shape). node_fits j x y z ≡ true) (sym (some_is k s e)) g) b.1
put (k ∷ shapes) (p ∷ fs) (q ∷ cs) (r ∷ us) (suc n) s x y z f e g =
    let b = both (node_fits k p q r) (nodes_fit shapes fs cs us) f in
    and_true _ _ b.0 (put shapes fs cs us n s x y z b.1 e g)

set_same : {A : Type 0} (xs : List A) (n : ℕ) (x : A) → slice_get xs n ≡ Some x → slice_set xs n x ≡ xs
set_same [] n x e = refl
set_same (y ∷ xs) zero x e = ap (λ z. z ∷ xs) (sym (some_is y x e))
set_same {A} (y ∷ xs) (suc n) x e = ap (λ (zs : List A). y ∷ zs) (set_same xs n x e)

-- ---- the answers of nodes

-- what is sent may leave by the node's fields
abbrev pub leave : List Shape → ℕ → SentEvent → Bool
leave shapes node r = typed_fits (output_type shapes node r.field) r.value

pub record Answered (shapes : List Shape) (node : ℕ) (a : NodeAnswer) : Type 0 where
  pub nodes : nodes_fit shapes a.fields a.sensors a.pointing ≡ true
  pub replies : list_all (leave shapes node) a.replies ≡ true

-- what a row lets out is of the type that leaves by it
sent_leaves : (o : Option FieldRowView) (v : Value) → option_map_or (λ (row : FieldRowView). sends row.access && value_fits row.field_type v) o false ≡ true → typed_fits (option_and_then sent_type o) v ≡ true
sent_leaves None v e = absurd cc
sent_leaves (Some row) v e = given (sends row.access) e
  where
    given : (b : Bool) → (b && value_fits row.field_type v) ≡ true → typed_fits (if b then Some row.field_type else None) v ≡ true
    given true h = h
    given false h = absurd cc

all_imply : {X : Type 0} (p q : X → Bool) → ((x : X) → p x ≡ true → q x ≡ true) → (xs : List X) → list_all p xs ≡ true → list_all q xs ≡ true
all_imply p q k [] f = refl
all_imply p q k (x ∷ xs) f = let b = both (p x) (list_all p xs) f in and_true _ _ (k x b.0) (all_imply p q k xs b.1)

leaving : (shapes : List Shape) (node : ℕ) (s : Shape) (rs : List SentEvent) → slice_get shapes node ≡ Some s → replies_fit s.node_type s.declared rs ≡ true → list_all (leave shapes node) rs ≡ true
leaving shapes node s rs e h =
    all_imply (λ (r : SentEvent). sent_fits s.node_type s.declared r.field r.value) (leave shapes node)
    (λ r f. subst (λ (o : Option Shape). typed_fits (option_and_then sent_type (slice_get (option_map_or rows_of o []) r.field)) r.value ≡ true) (sym e) (sent_leaves (slice_get (rows_of s) r.field) r.value f))
    rs h

-- a node of this type that declares these fields
abbrev pub with_type : NodeType → List FieldRowView → Shape
with_type t declared = record { node_type = t; declared = declared }

pub time_is : (t : NodeType) → is_time_sensor t ≡ true → t ≡ TimeSensor
time_is TimeSensor e = refl
time_is _ e = absurd cc

-- the drag of what is kept of a node, in its range
drag_in_range : (t : NodeType) (s : PointingState) (who : ℕ) → pointing_fits t s ≡ true → drag_fits (drag_by s who) ≡ true
drag_in_range t state.NoSensor who f = refl
drag_in_range t (state.Touch touch) who f = refl
drag_in_range PlaneSensor (state.Plane plane) who f = given (is_pressed_by plane who)
  where
    given : (b : Bool) → drag_fits (if b then plane.drag else None) ≡ true
    given true = (both (length plane.over == MAX_VIEWERS) (drag_fits plane.drag) f).1
    given false = refl
drag_in_range TouchSensor (state.Plane plane) who f = absurd cc
drag_in_range _ (state.Plane plane) who f = absurd cc

-- a field that an event sets is there
set_row : (v : Value) (field : Option FieldRowView) → is_set v field ≡ true → (row : FieldRowView) × (field ≡ Some row) × (is_exposed row.access ≡ true)
set_row v None e = absurd cc
set_row v (Some row) e = (row, refl, (both (is_exposed row.access) _ e).0)

module _ (shapes : List Shape) (w : WorldData) (fit : nodes_fit shapes w.fields w.sensors w.pointing ≡ true) (now : is_moment w.last_time ≡ true) where
  pub still : (node : ℕ) → Answered shapes node (nothing w)
  still node = record { nodes = fit; replies = refl }

  module _ (n : ℕ) (s : Shape) (is : slice_get shapes n ≡ Some s) where
    here : At s w.fields w.sensors w.pointing n
    here = nodes_at shapes w.fields w.sensors w.pointing n s fit is

    parts : (fields_fit s.node_type s.declared here.fields ≡ true) × ((time_fits s.node_type here.cycle && pointing_fits s.node_type here.pointing) ≡ true)
    parts = both (fields_fit s.node_type s.declared here.fields) (time_fits s.node_type here.cycle && pointing_fits s.node_type here.pointing) here.fit

    beside : (time_fits s.node_type here.cycle ≡ true) × (pointing_fits s.node_type here.pointing ≡ true)
    beside = both (time_fits s.node_type here.cycle) (pointing_fits s.node_type here.pointing) parts.1

    put_fields : (x : Fields) → fields_fit s.node_type s.declared x ≡ true → nodes_fit shapes (slice_set w.fields n x) w.sensors w.pointing ≡ true
    put_fields x f =
        let all = put shapes w.fields w.sensors w.pointing n s x here.cycle here.pointing fit is (and_true _ _ f parts.1) in
        subst (λ (us : List PointingState). nodes_fit shapes (slice_set w.fields n x) w.sensors us ≡ true) (set_same w.pointing n here.pointing here.pointing_is)
        (subst (λ (cs : List (Option ℕ)). nodes_fit shapes (slice_set w.fields n x) cs (slice_set w.pointing n here.pointing) ≡ true) (set_same w.sensors n here.cycle here.cycle_is) all)

    put_cycle : (x : Fields) (c : Option ℕ) → fields_fit s.node_type s.declared x ≡ true → time_fits s.node_type c ≡ true → nodes_fit shapes (slice_set w.fields n x) (slice_set w.sensors n c) w.pointing ≡ true
    put_cycle x c f g =
        let all = put shapes w.fields w.sensors w.pointing n s x c here.pointing fit is (and_true _ _ f (and_true _ _ g beside.1)) in
        subst (λ (us : List PointingState). nodes_fit shapes (slice_set w.fields n x) (slice_set w.sensors n c) us ≡ true) (set_same w.pointing n here.pointing here.pointing_is) all

    put_pointing : (x : Fields) (u : PointingState) → fields_fit s.node_type s.declared x ≡ true → pointing_fits s.node_type u ≡ true → nodes_fit shapes (slice_set w.fields n x) w.sensors (slice_set w.pointing n u) ≡ true
    put_pointing x u f g =
        let all = put shapes w.fields w.sensors w.pointing n s x here.cycle u fit is (and_true _ _ f (and_true _ _ beside.0 g)) in
        subst (λ (cs : List (Option ℕ)). nodes_fit shapes (slice_set w.fields n x) cs (slice_set w.pointing n u) ≡ true) (set_same w.sensors n here.cycle here.cycle_is) all

    only_cycle : (c : Option ℕ) → time_fits s.node_type c ≡ true → nodes_fit shapes w.fields (slice_set w.sensors n c) w.pointing ≡ true
    only_cycle c g = subst (λ (fs : List Fields). nodes_fit shapes fs (slice_set w.sensors n c) w.pointing ≡ true) (set_same w.fields n here.fields here.fields_is) (put_cycle here.fields c parts.0 g)

  -- ---- an event

  reacts : (target : End) (v : Value) (s : Shape) → slice_get shapes target.node ≡ Some s → event_fits s.node_type s.declared target.field v ≡ true → Answered shapes target.node (reacting w target v s.node_type (slice_get w.fields target.node))
  reacts target v s is ev =
      let at = here target.node s is in
      let r = all_reactions_fit s.declared s.node_type at.fields target.field v w.last_time (parts target.node s is).0 ev now in
      subst (λ (o : Option Fields). Answered shapes target.node (reacting w target v s.node_type o)) (sym at.fields_is)
      (record { nodes = put_fields target.node s is (reaction s.node_type at.fields target.field v w.last_time).fields r.in_fields; replies = leaving shapes target.node s _ is r.in_replies })

  -- a Script that isn't run
  sets_field : (target : End) (v : Value) (s : Shape) → slice_get shapes target.node ≡ Some s → event_fits s.node_type s.declared target.field v ≡ true → is_time_sensor s.node_type ≡ false → Answered shapes target.node (not_run w target v (slice_get (rows_of s) target.field) (slice_get w.fields target.node))
  sets_field target v s is ev no_clock =
      let at = here target.node s is in
      subst (λ (o : Option Fields). Answered shapes target.node (not_run w target v (slice_get (rows_of s) target.field) o)) (sym at.fields_is)
      (given (is_set v (slice_get (rows_of s) target.field)) refl)
    where
      given : (b : Bool) → is_set v (slice_get (rows_of s) target.field) ≡ b → Answered shapes target.node (if b then keeping w target v (here target.node s is).fields else nothing w)
      given true e =
          let at = here target.node s is in
          let row = set_row v (slice_get (rows_of s) target.field) e in
          let r = set_field_fits s.declared s.node_type at.fields target.field v row.0 (parts target.node s is).0 ev no_clock row.1 row.2 in
          record { nodes = put_fields target.node s is (keeps at.fields target.field v).fields r.in_fields; replies = leaving shapes target.node s (keeps at.fields target.field v).replies is r.in_replies }
      given false e = still target.node

  sets : (target : End) (v : Value) (ds : List FieldRowView) → slice_get shapes target.node ≡ Some (with_type TimeSensor ds) → Answered shapes target.node (setting_at w target v (slice_get w.fields target.node))
  sets target v ds is =
      let at = here target.node (with_type TimeSensor ds) is in
      subst (λ (o : Option Fields). Answered shapes target.node (setting_at w target v o)) (sym at.fields_is)
      (subst (λ (c : Option (Option ℕ)). Answered shapes target.node (setting w target v at.fields (timing_of at.fields) c)) (sym at.cycle_is) (given (timing_of at.fields) refl))
    where
      given : (o : Option TimeFieldsView) → timing_of (here target.node (with_type TimeSensor ds) is).fields ≡ o → Answered shapes target.node (setting w target v (here target.node (with_type TimeSensor ds) is).fields o (Some (here target.node (with_type TimeSensor ds) is).cycle))
      given None e = still target.node
      given (Some timing) e =
          let at = here target.node (with_type TimeSensor ds) is in
          let r = all_sets_fit ds at.fields timing at.cycle target.field v (parts target.node (with_type TimeSensor ds) is).0 e (beside target.node (with_type TimeSensor ds) is).0 in
          record { nodes = put_cycle target.node (with_type TimeSensor ds) is _ _ r.in_fields r.in_cycle; replies = leaving shapes target.node (with_type TimeSensor ds) _ is r.in_replies }

  -- a sensor that forgets its pointers behind what it has answered
  forgets_fit : (target : End) (s : Shape) (x : Fields) (rs : List SentEvent) → slice_get shapes target.node ≡ Some s → fields_fit s.node_type s.declared x ≡ true → replies_fit s.node_type s.declared rs ≡ true → (u : Option PointingState) → slice_get w.pointing target.node ≡ u
      → (nodes_fit shapes (slice_set w.fields target.node x) w.sensors (forgets w target.node s.node_type u) ≡ true) × (list_all (leave shapes target.node) (rs ++ forgotten_by s.node_type u) ≡ true)
  forgets_fit target s x rs is f r None e = absurd (nowhere (here target.node s is).pointing_is e)
    where
      nowhere : {o : Option PointingState} {u : PointingState} → o ≡ Some u → o ≡ None → ⊥
      nowhere p q = cc
  forgets_fit target s x rs is f r (Some u) e = given (is_state_of s.node_type u)
    where
      same : (here target.node s is).pointing ≡ u
      same = some_is (here target.node s is).pointing u (sym (here target.node s is).pointing_is ∙ e)

      fits : pointing_fits s.node_type u ≡ true
      fits = subst (λ (z : PointingState). pointing_fits s.node_type z ≡ true) same (beside target.node s is).1

      given : (b : Bool) → (nodes_fit shapes (slice_set w.fields target.node x) w.sensors (if b then slice_set w.pointing target.node (forgotten u).state else w.pointing) ≡ true)
          × (list_all (leave shapes target.node) (rs ++ (if b then (forgotten u).replies else [])) ≡ true)
      given true =
          let d = all_forget_fit s.declared s.node_type u fits in (
            put_pointing target.node s is x (forgotten u).state f d.in_state,
            all_append (leave shapes target.node) rs (forgotten u).replies (leaving shapes target.node s rs is r) (leaving shapes target.node s (forgotten u).replies is d.in_replies),
          )
      given false = (put_fields target.node s is x f, all_append (leave shapes target.node) rs [] (leaving shapes target.node s rs is r) refl)

  touches : (target : End) (v : Value) (s : Shape) → slice_get shapes target.node ≡ Some s → event_fits s.node_type s.declared target.field v ≡ true → Answered shapes target.node (touching w target v s.node_type (slice_get w.fields target.node))
  touches target v s is ev = given (turns_off s.node_type target.field v)
    where
      off : Answered shapes target.node (forgetting w target.node s.node_type (reacting w target v s.node_type (slice_get w.fields target.node)) (slice_get w.pointing target.node))
      off =
          let at = here target.node s is in
          let r = all_reactions_fit s.declared s.node_type at.fields target.field v w.last_time (parts target.node s is).0 ev now in
          let d = forgets_fit target s (reaction s.node_type at.fields target.field v w.last_time).fields (reaction s.node_type at.fields target.field v w.last_time).replies is r.in_fields r.in_replies (slice_get w.pointing target.node) refl in
          subst (λ (o : Option Fields). Answered shapes target.node (forgetting w target.node s.node_type (reacting w target v s.node_type o) (slice_get w.pointing target.node))) (sym at.fields_is)
          (record { nodes = d.0; replies = d.1 })

      given : (b : Bool) → Answered shapes target.node (if b then forgetting w target.node s.node_type (reacting w target v s.node_type (slice_get w.fields target.node)) (slice_get w.pointing target.node) else reacting w target v s.node_type (slice_get w.fields target.node))
      given true = off
      given false = reacts target v s is ev

  typed : (target : End) (v : Value) (s : Shape) → slice_get shapes target.node ≡ Some s → event_fits s.node_type s.declared target.field v ≡ true → Answered shapes target.node (answer_as w target v (Some s))
  typed target v s is ev = sensor (is_time_sensor s.node_type) refl
    where
      script : is_time_sensor s.node_type ≡ false → (b : Bool) → Answered shapes target.node (if b
          then not_run w target v (slice_get (rows_of s) target.field) (slice_get w.fields target.node)
          else reacting w target v s.node_type (slice_get w.fields target.node))
      script no_clock true = sets_field target v s is ev no_clock
      script no_clock false = reacts target v s is ev

      sensing : is_time_sensor s.node_type ≡ false → (b : Bool) → Answered shapes target.node (if b
          then touching w target v s.node_type (slice_get w.fields target.node)
          else (if is_script s.node_type
          then not_run w target v (slice_get (rows_of s) target.field) (slice_get w.fields target.node)
          else reacting w target v s.node_type (slice_get w.fields target.node)))
      sensing no_clock true = touches target v s is ev
      sensing no_clock false = script no_clock (is_script s.node_type)

      sensor : (b : Bool) → is_time_sensor s.node_type ≡ b → Answered shapes target.node (if b
          then setting_at w target v (slice_get w.fields target.node)
          else (if is_pointing s.node_type
          then touching w target v s.node_type (slice_get w.fields target.node)
          else (if is_script s.node_type
          then not_run w target v (slice_get (rows_of s) target.field) (slice_get w.fields target.node)
          else reacting w target v s.node_type (slice_get w.fields target.node))))
      sensor true e = sets target v s.declared (is ∙ ap (λ (k : NodeType). Some (with_type k s.declared)) (time_is s.node_type e))
      sensor false e = sensing e (is_pointing s.node_type)

  -- the target of an event that may come to it
  pub answers : (target : End) (v : Value) → typed_fits (input_type shapes target.node target.field) v ≡ true → Answered shapes target.node (answer shapes w target v)
  unfolding answer
  answers target v ev = given (slice_get shapes target.node) refl
    where
      given : (o : Option Shape) → slice_get shapes target.node ≡ o → Answered shapes target.node (answer_as w target v o)
      given None e = still target.node
      given (Some s) e = typed target v s e (subst (λ (o : Option Shape). typed_fits (option_map (λ (row : FieldRowView). row.field_type) (slice_get (option_map_or rows_of o []) target.field)) v ≡ true) e ev)

  -- ---- the clock, and a pointer

  pub ticks : (time : ℤ) → is_moment time ≡ true → (n : ℕ) (ds : List FieldRowView) → slice_get shapes n ≡ Some (with_type TimeSensor ds) → Answered shapes n (ticked w n time)
  unfolding ticked
  ticks time moment n ds is =
      let at = here n (with_type TimeSensor ds) is in
      subst (λ (o : Option Fields). Answered shapes n (ticking_at w n time o)) (sym at.fields_is)
      (subst (λ (c : Option (Option ℕ)). Answered shapes n (ticking w n time (timing_of at.fields) c)) (sym at.cycle_is) (given (timing_of at.fields) refl))
    where
      given : (o : Option TimeFieldsView) → timing_of (here n (with_type TimeSensor ds) is).fields ≡ o → Answered shapes n (ticking w n time o (Some (here n (with_type TimeSensor ds) is).cycle))
      given None e = still n
      given (Some timing) e =
          let at = here n (with_type TimeSensor ds) is in
          let r = all_ticks_fit ds timing at.cycle time (timing_is at.fields timing e) (beside n (with_type TimeSensor ds) is).0 moment in
          record { nodes = only_cycle n (with_type TimeSensor ds) is _ r.in_cycle; replies = leaving shapes n (with_type TimeSensor ds) _ is r.in_replies }

  pub meets : (scene : SceneView) (n : ℕ) (s : Shape) (at : SensorPointer) → slice_get shapes n ≡ Some s → is_viewer at.who ≡ true → IfInRange at.place → contact_fits at.contact ≡ true → option_map_or coordinates_fit at.tracked true ≡ true
      → Answered shapes n (met scene w n at)
  unfolding met
  meets scene n s at is viewer inside contact near =
      let node = here n s is in
      subst (λ (u : Option PointingState). Answered shapes n (met_as scene w n at u)) (sym node.pointing_is) (given (is_met scene w n node.pointing))
    where
      meeting_fits : Answered shapes n (meeting w n at (here n s is).pointing (slice_get w.fields n))
      meeting_fits =
          let node = here n s is in
          let r = all_meet_fit s.declared s.node_type node.pointing node.fields at w.last_time (beside n s is).1 (parts n s is).0 viewer inside contact near now in
          subst (λ (o : Option Fields). Answered shapes n (meeting w n at node.pointing o)) (sym node.fields_is)
          (record {
            nodes = put_pointing n s is (pointed node.pointing node.fields at w.last_time).fields (pointed node.pointing node.fields at w.last_time).state r.in_fields r.in_state;
            replies = leaving shapes n s (pointed node.pointing node.fields at w.last_time).replies is r.in_replies;
          })

      given : (b : Bool) → Answered shapes n (if b then meeting w n at (here n s is).pointing (slice_get w.fields n) else nothing w)
      given true = meeting_fits
      given false = still n

  -- where a ray meets the plane of a drag
  pub tracks : (scene : SceneView) (n : ℕ) (s : Shape) (p : PointerView) → slice_get shapes n ≡ Some s → option_map_or coordinates_fit (tracked_at scene w p n) true ≡ true
  unfolding tracked_at
  tracks scene n s p is =
      let node = here n s is in
      subst (λ (u : Option PointingState). option_map_or coordinates_fit (tracked_by scene w.fields p.ray (option_and_then (λ (x : PointingState). drag_by x p.who) u)) true ≡ true) (sym node.pointing_is)
      (given (drag_by node.pointing p.who) (drag_in_range s.node_type node.pointing p.who (beside n s is).1))
    where
      given : (o : Option Drag) → drag_fits o ≡ true → option_map_or coordinates_fit (tracked_by scene w.fields p.ray o) true ≡ true
      given None f = refl
      given (Some drag) f = track_fits scene w.fields drag.path drag.start p.ray (both (coordinates_fit drag.start) (coordinates_fit drag.last) (both (is_viewer drag.presser && path_fits drag.path) (coordinates_fit drag.start && coordinates_fit drag.last) f).1).0
