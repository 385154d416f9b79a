-- What time sensors and pointing sensors do in a world, by what is found of them.
use Rattle.std.proofs.Common.{◌≡◌, ◌∙◌, ap, sym, refl, ℕ, ℤ, Bool, true, false, List, [], Option, Some, None, arith}
use Rattle.std.proofs.lemmas.Int.{ints}
use Rattle.std.proofs.lemmas.List.{set-get_or}
use Rattle.std.proofs.lemmas.Option.{get_or_from_slice_get}
use Rattle.std.specs.Prelude.{◌≤ℤ◌, ◌^◌, ◌&&◌, FitsSigned, IsTrue, int_le, negsuc, pos, slice_get, slice_set}
use mir.Syntax.{w64}
use Rattle.std.specs.Option.{option_map_or}
use Rattle.x3d_values.specs.declared.fields.Fields.{Fields}
use Rattle.x3d_values.specs.declared.value.Value.{Value}
use Rattle.x3d_values.specs.Ranges.{is_input_time, max_time}
use Rattle.react_core.specs.declared.outbox.SentEvent.{SentEvent}
use Rattle.sensor_core.specs.Timing.{TimeFieldsView, timing_of, with_timing}
use Rattle.sensor_core.specs.Events.{set}
use Rattle.sensor_core.specs.Ticks.{tick}
use Rattle.sensor_plane.specs.declared.meeting.SensorPointer.{SensorPointer}
use Rattle.sensor_plane.specs.declared.pointing.PointingState.{PointingState}
use Rattle.sensor_plane.specs.declared.pointing.PointingState.TheVariants.{NoSensor, Plane, Touch}
use Rattle.sensor_plane.specs.Meeting.{pointed}
use Rattle.sensor_plane.specs.Pointing.{is_no_sensor}
use Rattle.scene_core.specs.Scene.{SceneView}
use Rattle.scene_core.specs.declared.scene.End.{End}
use Rattle.cascade_world.specs.Answers.{NodeAnswer, answered, is_met, meeting, met, met_as, nothing, setting, setting_at, ticked, ticking, ticking_at}
use Rattle.cascade_world.specs.declared.world.WorldData.{WorldData}

-- ---- the clock ticks

and-parts : (a b : Bool) → (a && b) ≡ true → (a ≡ true) × (b ≡ true)
and-parts true b h = (refl, h)
and-parts false b h = cc

-- the time of an input is one at which a time sensor ticks
pub record IsTimely (t : ℤ) : Type 0 where
  pub fits : FitsSigned w64 t
  pub after : pos 0 ≤ℤ t
  pub late : t ≤ℤ pos (10 ^ 18)

fitting : (t : ℤ) → pos 0 ≤ℤ t → t ≤ℤ pos (10 ^ 18) → FitsSigned w64 t
fitting (pos n) first last = record { sfits = omega (arith, ints) }
fitting (negsuc n) first last = record { sfits = omega (arith, ints) }

pub timely : (t : ℤ) → IsTrue (is_input_time t) → IsTimely t
timely t fits =
    let parts = and-parts (int_le (pos 1) t) (int_le t (pos max_time)) fits in
    let first : int_le (pos 1) t ≡ true = parts.0 in
    let last : int_le t (pos max_time) ≡ true = parts.1 in
    let after : pos 0 ≤ℤ t = grind (arith, ints) in
    let late : t ≤ℤ pos (10 ^ 18) = grind (arith, ints) in
    record { fits = fitting t after late; after = after; late = late }

module _ (w : WorldData) (node : ℕ) (now : ℤ) where
  pub tick-nowhere : slice_get w.fields node ≡ None → nothing w ≡ ticked w node now
  unfolding ticked
  tick-nowhere none = sym (ap (ticking_at w node now) none)

  module _ (fields : Fields) (here : slice_get w.fields node ≡ Some fields) where
    pub tick-untimed : timing_of fields ≡ None → nothing w ≡ ticked w node now
    unfolding ticked
    tick-untimed none =
        sym (ap (ticking_at w node now) here
        ∙ ap (λ (t : Option TimeFieldsView). ticking w node now t (slice_get w.sensors node)) none)

    module _ (timing : TimeFieldsView) (timed : timing_of fields ≡ Some timing) where
      at-timing : ticking w node now (Some timing) (slice_get w.sensors node) ≡ ticked w node now
      unfolding ticked
      at-timing =
          sym (ap (ticking_at w node now) here
          ∙ ap (λ (t : Option TimeFieldsView). ticking w node now t (slice_get w.sensors node)) timed)

      pub tick-unlisted : slice_get w.sensors node ≡ None → nothing w ≡ ticked w node now
      tick-unlisted none = sym (ap (ticking w node now (Some timing)) none) ∙ at-timing

      module _ (cycle : Option ℕ) (listed : slice_get w.sensors node ≡ Some cycle) where
        pub ticks : ticking w node now (Some timing) (Some cycle) ≡ ticked w node now
        ticks = sym (ap (ticking w node now (Some timing)) listed) ∙ at-timing

        -- the world and the replies of a time sensor that ticks
        pub tick-world : (sensors : List (Option ℕ)) → sensors ≡ slice_set w.sensors node (tick cycle timing now).cycle →
            record w { sensors = sensors } ≡ answered w (ticked w node now)
        tick-world sensors is = ap (λ (s : List (Option ℕ)). record w { sensors = s }) is ∙ ap (answered w) ticks

        pub tick-replies : (replies : List SentEvent) → replies ≡ (tick cycle timing now).replies → replies ≡ (ticked w node now).replies
        tick-replies replies is = is ∙ ap (λ (a : NodeAnswer). a.replies) ticks

-- ---- an event comes to a time sensor

module _ (w : WorldData) (target : End) (v : Value) where
  pub set-nowhere : slice_get w.fields target.node ≡ None → nothing w ≡ setting_at w target v (slice_get w.fields target.node)
  set-nowhere none = sym (ap (setting_at w target v) none)

  module _ (fields : Fields) (here : slice_get w.fields target.node ≡ Some fields) where
    pub set-untimed : timing_of fields ≡ None → nothing w ≡ setting_at w target v (slice_get w.fields target.node)
    set-untimed none =
        sym (ap (setting_at w target v) here
        ∙ ap (λ (t : Option TimeFieldsView). setting w target v fields t (slice_get w.sensors target.node)) none)

    module _ (timing : TimeFieldsView) (timed : timing_of fields ≡ Some timing) where
      set-at : setting w target v fields (Some timing) (slice_get w.sensors target.node) ≡ setting_at w target v (slice_get w.fields target.node)
      set-at =
          sym (ap (setting_at w target v) here
          ∙ ap (λ (t : Option TimeFieldsView). setting w target v fields t (slice_get w.sensors target.node)) timed)

      pub set-unlisted : slice_get w.sensors target.node ≡ None → nothing w ≡ setting_at w target v (slice_get w.fields target.node)
      set-unlisted none = sym (ap (setting w target v fields (Some timing)) none) ∙ set-at

      module _ (cycle : Option ℕ) (listed : slice_get w.sensors target.node ≡ Some cycle) where
        sets : setting w target v fields (Some timing) (Some cycle) ≡ setting_at w target v (slice_get w.fields target.node)
        sets = sym (ap (setting w target v fields (Some timing)) listed) ∙ set-at

        kept : (new : TimeFieldsView) (all : List Fields) →
            all ≡ option_map_or (λ (f : Fields). slice_set w.fields target.node (with_timing f new)) (slice_get w.fields target.node) w.fields →
            new ≡ (set cycle timing target.field v).timing →
            all ≡ slice_set w.fields target.node (with_timing fields (set cycle timing target.field v).timing)
        kept new all is same =
            is
            ∙ ap (λ (o : Option Fields). option_map_or (λ (f : Fields). slice_set w.fields target.node (with_timing f new)) o w.fields) here
            ∙ ap (λ (t : TimeFieldsView). slice_set w.fields target.node (with_timing fields t)) same

        -- the world and the replies of a time sensor that takes an event
        pub set-world : (new : TimeFieldsView) (all : List Fields) (sensors : List (Option ℕ)) →
            all ≡ option_map_or (λ (f : Fields). slice_set w.fields target.node (with_timing f new)) (slice_get w.fields target.node) w.fields →
            new ≡ (set cycle timing target.field v).timing →
            sensors ≡ slice_set w.sensors target.node (set cycle timing target.field v).cycle →
            record w { fields = all; sensors = sensors } ≡ answered w (setting_at w target v (slice_get w.fields target.node))
        set-world new all sensors is same at =
            ap (λ (f : List Fields). record w { fields = f; sensors = sensors }) (kept new all is same)
            ∙ ap (λ (s : List (Option ℕ)).
            record w { fields = slice_set w.fields target.node (with_timing fields (set cycle timing target.field v).timing); sensors = s }) at
            ∙ ap (answered w) sets

        pub set-replies : (replies : List SentEvent) → replies ≡ (set cycle timing target.field v).replies →
            replies ≡ (setting_at w target v (slice_get w.fields target.node)).replies
        set-replies replies is = is ∙ ap (λ (a : NodeAnswer). a.replies) sets

-- ---- a pointing sensor meets a pointer

-- what stands at a place stands there again
pub same-set : {A : Type 0} (xs : List A) (i : ℕ) (x : A) → slice_get xs i ≡ Some x → slice_set xs i x ≡ xs
same-set xs i x h = ap (λ y. slice_set xs i y) (sym (get_or_from_slice_get xs i x x h)) ∙ set-get_or xs i x

-- the fields of the nodes, what is kept of the sensor, and what it sends, where it is there
abbrev fields_met : WorldData → ℕ → SensorPointer → PointingState → Option Fields → List Fields
fields_met w node at state own = option_map_or (λ (f : Fields). slice_set w.fields node (pointed state f at w.last_time).fields) own w.fields

abbrev state_met : WorldData → SensorPointer → PointingState → Option Fields → PointingState
state_met w at state own = option_map_or (λ (f : Fields). (pointed state f at w.last_time).state) own state

abbrev replies_met : WorldData → SensorPointer → PointingState → Option Fields → List SentEvent
replies_met w at state own = option_map_or (λ (f : Fields). (pointed state f at w.last_time).replies) own []

module _ (scene : SceneView) (w : WorldData) (node : ℕ) (at : SensorPointer) where
  pub met-nowhere : slice_get w.pointing node ≡ None → nothing w ≡ met scene w node at
  unfolding met
  met-nowhere none = rw none refl

  module _ (state : PointingState) (here : slice_get w.pointing node ≡ Some state) where
    pub met-off : is_met scene w node state ≡ false → nothing w ≡ met scene w node at
    unfolding met
    met-off off = sym (ap (met_as scene w node at) here ∙ rw off refl)

    module _ (on : is_met scene w node state ≡ true) where
      pub meets : meeting w node at state (slice_get w.fields node) ≡ met scene w node at
      unfolding met
      meets = sym (ap (met_as scene w node at) here ∙ rw on refl)

      met-by : (own : Option Fields) →
          record w { fields = fields_met w node at state own; pointing = slice_set w.pointing node (state_met w at state own) } ≡ answered w (meeting w node at state own)
      met-by None = ap (λ (ps : List PointingState). record w { pointing = ps }) (same-set w.pointing node state here)
      met-by (Some fields) = refl

      replies-by : (own : Option Fields) → replies_met w at state own ≡ (meeting w node at state own).replies
      replies-by None = refl
      replies-by (Some fields) = refl

      -- the world and the replies of a sensor that meets a pointer
      pub met-world : (new : PointingState) (fields : List Fields) (pointing : List PointingState) → fields ≡ fields_met w node at state (slice_get w.fields node) →
          new ≡ state_met w at state (slice_get w.fields node) → pointing ≡ slice_set w.pointing node new →
          record w { fields = fields; pointing = pointing } ≡ answered w (met scene w node at)
      met-world new fields pointing all is put =
          ap (λ (fs : List Fields). record w { fields = fs; pointing = pointing }) all
          ∙ ap (λ (ps : List PointingState). record w { fields = fields_met w node at state (slice_get w.fields node); pointing = ps }) (put ∙ ap (slice_set w.pointing node) is)
          ∙ met-by (slice_get w.fields node)
          ∙ ap (answered w) meets

      pub met-replies : (replies : List SentEvent) → replies ≡ replies_met w at state (slice_get w.fields node) → replies ≡ (met scene w node at).replies
      met-replies replies is = is ∙ replies-by (slice_get w.fields node) ∙ ap (λ (a : NodeAnswer). a.replies) meets

-- ---- a node that is no sensor stays one

abbrev after : PointingState → SensorPointer → ℤ → Option Fields → PointingState
after state p t fields = option_map_or (λ (f : Fields). (pointed state f p t).state) fields state

unmet-stays : (fields : Option Fields) (p : SensorPointer) (t : ℤ) → is_no_sensor (after NoSensor p t fields) ≡ true
unfolding pointed
unmet-stays None p t = refl
unmet-stays (Some f) p t = refl

stays : (state new : PointingState) (fields : Option Fields) (p : SensorPointer) (t : ℤ) → new ≡ after state p t fields → is_no_sensor state ≡ true → is_no_sensor new ≡ true
stays NoSensor new fields p t is h = ap is_no_sensor is ∙ unmet-stays fields p t
stays (Touch touch) new fields p t is h = cc
stays (Plane plane) new fields p t is h = cc

pub no_sensor_stays : (found : Option PointingState) (state kept new : PointingState) (fields : Option Fields) (p : SensorPointer) (t : ℤ) → found ≡ Some state → found ≡ Some kept
    → new ≡ option_map_or (λ (f : Fields). (pointed state f p t).state) fields state → is_no_sensor kept ≡ true → is_no_sensor new ≡ true
no_sensor_stays found state kept new fields p t here there is none =
    let same : kept ≡ state = cc in
    stays state new fields p t is (ap is_no_sensor (sym same) ∙ none)
