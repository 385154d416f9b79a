-- TimeSensors that wait, and pointers that pass a pointing sensor: nothing happens.
use Rattle.std.proofs.Common.{arith, ◌≡◌, ◌∙◌, ap, sym, subst, refl, eq-eqb, eqb-true, ℕ, ℤ, Bool, true, false, List, [], ◌∷◌, ◌/◌, Option, Some, None}
use Rattle.std.proofs.lemmas.Int.{ints}
use Rattle.std.specs.Prelude.{◌&&◌, ◌||◌, ◌==◌, is_none, is_some, not, slice_get, slice_set}
use Rattle.std.specs.List.{list_any}
use Rattle.std.specs.Option.{option_map_or}
use Rattle.x3d_values.specs.declared.fields.Fields.{Fields}
use Rattle.x3d_values.specs.declared.vector.Vec3.{Vec3}
use Rattle.x3d_values.specs.Pointing.{PointerView}
use Rattle.react_core.specs.declared.outbox.SentEvent.{SentEvent}
use Rattle.sensor_core.specs.Ticks.{Tick, is_started, tick}
use Rattle.sensor_core.specs.Timing.{TimeFieldsView, timing_of}
use Rattle.sensor_core.specs.Touches as touches
use Rattle.sensor_plane.specs.Planes as planes
use Rattle.sensor_plane.specs.declared.pointing.PointingState.{PointingState}
use Rattle.sensor_plane.specs.declared.pointing.PointingState.TheVariants.{NoSensor, Touch, Plane}
use Rattle.sensor_plane.specs.declared.drag.Drag.{Drag}
use Rattle.sensor_plane.specs.declared.meeting.SensorPointer.{SensorPointer}
use Rattle.sensor_plane.specs.declared.pointer.Contact.{Contact}
use Rattle.sensor_plane.specs.Meeting.{PlaneMet, pointed}
use Rattle.sensor_plane.specs.Pointing.{is_pressed_by, is_resting}
use Rattle.sensor_plane.proofs.Resting.{rests}
use Rattle.scene_core.specs.Scene.{SceneView}
use Rattle.cascade_world.specs.Answers.{NodeAnswer, is_met, meeting, met, nothing, pointer_at, ticked, ticking}
use Rattle.cascade_world.specs.Blocks.{AreOthers}
use Rattle.cascade_world.specs.Idle.{AreIdle, IsIdle, no_time, starts_at}
use Rattle.cascade_world.specs.declared.idle.Idle.{Idle}
use Rattle.cascade_world.proofs.Blocks.{others}
use Rattle.cascade_world.specs.Near.{is_near}
use Rattle.cascade_world.specs.Insides.{Insides, contact_in, inside_at, place_in}
use Rattle.cascade_world.specs.declared.aim.Inside.{Inside}
use Rattle.cascade_world.specs.declared.world.WorldData.{WorldData}
use Rattle.cascade_world.proofs.Sensing.{meets, met-nowhere, met-off, same-set, tick-nowhere, tick-unlisted, tick-untimed, ticks}

-- ---- when nodes wait

-- at no time a node starts
never : (f : Fields) → IsIdle f no_time
never f t from below = grind (arith, ints)

pub wakes : (nodes new : List Fields) (idles marks : List Idle) (node : ℕ) → AreIdle nodes idles → marks ≡ slice_set idles (node / 32) no_time →
    AreOthers node nodes new → AreIdle new marks
wakes nodes new idles marks node are is same =
    subst (λ (ms : List Idle). AreIdle new ms) (sym is) (others IsIdle nodes idles node new no_time are never same)

-- what is known of the nodes of a slice is known of the list
pub around : (nodes new slice : List Fields) (idles marks : List Idle) (node : ℕ) → slice ≡ new →
    ((before : List Fields) → AreIdle before idles → AreOthers node before slice → AreIdle slice marks) → AreIdle nodes idles → AreOthers node nodes new →
    AreIdle new marks
around nodes new slice idles marks node whole known are same =
    subst (λ (fs : List Fields). AreIdle fs marks) whole (known nodes are (subst (λ (fs : List Fields). AreOthers node nodes fs) (sym whole) same))

-- ---- a tick that does nothing

pub none-of : (o : Option ℕ) → is_some o ≡ false → o ≡ None
none-of None h = refl
none-of (Some x) h = cc

calm : (timing : TimeFieldsView) (t : ℤ) → is_started timing t ≡ false → tick None timing t ≡ record { cycle = None; replies = [] }
unfolding tick
calm timing t h = rw h refl

abbrev with-sensors : WorldData → List (Option ℕ) → List SentEvent → NodeAnswer
with-sensors w sensors replies = record { fields = w.fields; sensors = sensors; pointing = w.pointing; replies = replies }

module _ (w : WorldData) (node : ℕ) (t : ℤ) (listed : slice_get w.sensors node ≡ Some None) where
  still : (timing : TimeFieldsView) → is_started timing t ≡ false → ticking w node t (Some timing) (Some None) ≡ nothing w
  still timing h =
      ap (λ (k : Tick). with-sensors w (slice_set w.sensors node k.cycle) k.replies) (calm timing t h)
      ∙ ap (λ (s : List (Option ℕ)). with-sensors w s []) (same-set w.sensors node None listed)

  by-timing : (fields : Fields) → slice_get w.fields node ≡ Some fields → (o : Option TimeFieldsView) → timing_of fields ≡ o → starts_at fields t ≡ false →
      ticked w node t ≡ nothing w
  by-timing fields here None none waits = sym (tick-untimed w node t fields here none)
  by-timing fields here (Some timing) timed waits =
      sym (ticks w node t fields here timing timed None listed) ∙ still timing (rw timed at waits)

  by-fields : (o : Option Fields) → slice_get w.fields node ≡ o → ((f : Fields) → slice_get w.fields node ≡ Some f → starts_at f t ≡ false) →
      ticked w node t ≡ nothing w
  by-fields None none waits = sym (tick-nowhere w node t none)
  by-fields (Some fields) here waits = by-timing fields here (timing_of fields) refl (waits fields here)

  pub idle-ticks : ((f : Fields) → slice_get w.fields node ≡ Some f → starts_at f t ≡ false) → ticked w node t ≡ nothing w
  idle-ticks waits = by-fields (slice_get w.fields node) refl waits

module _ (w : WorldData) (node : ℕ) (t : ℤ) where
  module _ (unlisted : slice_get w.sensors node ≡ None) where
    quiet-timing : (fields : Fields) → slice_get w.fields node ≡ Some fields → (o : Option TimeFieldsView) → timing_of fields ≡ o → ticked w node t ≡ nothing w
    quiet-timing fields here None none = sym (tick-untimed w node t fields here none)
    quiet-timing fields here (Some timing) timed = sym (tick-unlisted w node t fields here timing timed unlisted)

    quiet : (o : Option Fields) → slice_get w.fields node ≡ o → ticked w node t ≡ nothing w
    quiet None none = sym (tick-nowhere w node t none)
    quiet (Some fields) here = quiet-timing fields here (timing_of fields) refl

  module _ (rests : (cycle : Option ℕ) → slice_get w.sensors node ≡ Some cycle → is_none cycle ≡ true)
      (waits : (f : Fields) → slice_get w.fields node ≡ Some f → starts_at f t ≡ false) where
    by-cycle : (o : Option (Option ℕ)) → slice_get w.sensors node ≡ o → ticked w node t ≡ nothing w
    by-cycle None none = quiet none (slice_get w.fields node) refl
    by-cycle (Some None) listed = idle-ticks w node t listed waits
    by-cycle (Some (Some k)) listed = let e : is_none (Some k) ≡ true = rests (Some k) listed in cc

    pub idle-at : ticked w node t ≡ nothing w
    idle-at = by-cycle (slice_get w.sensors node) refl

-- ---- a pointer that passes

not-inside : (is : Insides) (o : Option Inside) (sensor : ℕ) → inside_at is.sensors sensor ≡ o → is_none o ≡ true → (place_in is sensor ≡ None) × (contact_in is sensor ≡ None)
not-inside is None sensor here h = (rw here refl, rw here refl)
not-inside is (Some i) sensor here h = cc

module _ (scene : SceneView) (w : WorldData) (node : ℕ) (p : PointerView) (before : Bool) (is : Insides) (tracked : Option Vec3)
    (outside : is_none (inside_at is.sensors node) ≡ true) where
  abbrev at : SensorPointer
  at = pointer_at p before is tracked node

  -- the pointer of a sensor that it isn't inside of
  abbrev passing : Option Vec3 → Option Contact → SensorPointer
  passing place contact = record { who = p.who; before = before; down = p.down; place = place; contact = contact; tracked = tracked }

  module _ (state : PointingState) (here : slice_get w.pointing node ≡ Some state) (rest : is_resting state ≡ true) where
    leaves : (fields : Fields) → pointed state fields at w.last_time ≡ record { state = state; fields = fields; replies = [] }
    leaves fields =
        let none = not-inside is (inside_at is.sensors node) node refl outside in
        ap (λ (o : Option Vec3). pointed state fields (passing o (contact_in is node)) w.last_time) none.0
        ∙ ap (λ (o : Option Contact). pointed state fields (passing None o) w.last_time) none.1
        ∙ rests state fields p.who before p.down tracked w.last_time rest

    abbrev with_both : List Fields → List PointingState → List SentEvent → NodeAnswer
    with_both fields pointing replies = record { fields = fields; sensors = w.sensors; pointing = pointing; replies = replies }

    meets-none : (own : Option Fields) → slice_get w.fields node ≡ own → meeting w node at state own ≡ nothing w
    meets-none None own = refl
    meets-none (Some fields) own =
        ap (λ (x : PlaneMet). with_both (slice_set w.fields node x.fields) (slice_set w.pointing node x.state) x.replies) (leaves fields)
        ∙ ap (λ (fs : List Fields). with_both fs (slice_set w.pointing node state) []) (same-set w.fields node fields own)
        ∙ ap (λ (ps : List PointingState). with_both w.fields ps []) (same-set w.pointing node state here)

    by-met : (b : Bool) → is_met scene w node state ≡ b → met scene w node at ≡ nothing w
    by-met true on = sym (meets scene w node at state here on) ∙ meets-none (slice_get w.fields node) refl
    by-met false off = sym (met-off scene w node at state here off)

    pub passes-there : met scene w node at ≡ nothing w
    passes-there = by-met (is_met scene w node state) refl

  module _ (rest : (state : PointingState) → slice_get w.pointing node ≡ Some state → is_resting state ≡ true) where
    by-state : (o : Option PointingState) → slice_get w.pointing node ≡ o → met scene w node at ≡ nothing w
    by-state None none = sym (met-nowhere scene w node at none)
    by-state (Some state) here = passes-there state here (rest state here)

    pub passes-at : met scene w node at ≡ nothing w
    passes-at = by-state (slice_get w.pointing node) refl

-- a pointer inside a sensor of another block
beside-by : (i : Inside) (is : List Inside) (block sensor : ℕ) (b : Bool) → (i.sensor == sensor) ≡ b → ((i.sensor / 32) == block) ≡ false → sensor / 32 ≡ block →
    is_none (inside_at is sensor) ≡ true → is_none (inside_at (i ∷ is) sensor) ≡ true
unfolding inside_at
beside-by i is block sensor true same other within rest =
    let e : i.sensor / 32 ≡ block = ap (λ (k : ℕ). k / 32) (eqb-true i.sensor sensor same) ∙ within in
    let f : ((i.sensor / 32) == block) ≡ true = eq-eqb (i.sensor / 32) block e in cc
beside-by i is block sensor false apart other within rest = rw apart rest

beside-one : (i : Inside) (is : List Inside) (block sensor : ℕ) (a b : Bool) → is_near block i ≡ a → (a || b) ≡ false → sensor / 32 ≡ block →
    (b ≡ false → is_none (inside_at is sensor) ≡ true) → is_none (inside_at (i ∷ is) sensor) ≡ true
beside-one i is block sensor true b here other within rest = cc
beside-one i is block sensor false b here other within rest = beside-by i is block sensor (i.sensor == sensor) refl here within (rest other)

pub beside-all : (is : List Inside) (block sensor : ℕ) → list_any (is_near block) is ≡ false → sensor / 32 ≡ block → is_none (inside_at is sensor) ≡ true
unfolding inside_at
beside-all [] block sensor other within = refl
beside-all (i ∷ is) block sensor other within =
    beside-one i is block sensor (is_near block i) (list_any (is_near block) is) refl other within (λ none. beside-all is block sensor none within)

pub not-so : (b : Bool) → not b ≡ true → b ≡ false
not-so true h = cc
not-so false h = refl

-- nobody presses a sensor that is at rest
by-rest : (state : PointingState) (who : ℕ) → is_resting state ≡ true → is_pressed_by state who ≡ false
by-rest NoSensor who alone = refl
by-rest (Touch touch) who alone = free (touches.is_over touch) touch.presser alone
  where
    free : (over : Bool) (presser : Option ℕ) → (not over && is_none presser) ≡ true → option_map_or (λ presser. presser == who) presser false ≡ false
    free true presser h = cc
    free false None h = refl
    free false (Some p) h = cc
by-rest (Plane plane) who alone = free (planes.is_over plane) plane.drag alone
  where
    free : (over : Bool) (drag : Option Drag) → (not over && is_none drag) ≡ true → planes.pressed_by drag who ≡ false
    free true drag h = cc
    free false None h = refl
    free false (Some d) h = cc

unpressed-at : (o : Option PointingState) (who : ℕ) → ((state : PointingState) → o ≡ Some state → is_resting state ≡ true) →
    option_map_or (λ (state : PointingState). is_pressed_by state who) o false ≡ false
unpressed-at None who rest = refl
unpressed-at (Some state) who rest = by-rest state who (rest state refl)

pub unpressed : (pointing : List PointingState) (who sensor : ℕ) → ((state : PointingState) → slice_get pointing sensor ≡ Some state → is_resting state ≡ true) →
    option_map_or (λ (state : PointingState). is_pressed_by state who) (slice_get pointing sensor) false ≡ false
unpressed pointing who sensor rest = unpressed-at (slice_get pointing sensor) who rest
