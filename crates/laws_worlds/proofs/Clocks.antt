-- What a TimeSensor does keeps its ranges.
use Rattle.std.proofs.Common.{◌≡◌, ℕ, ◌-◌, ◌^◌, ℤ, pos, negsuc, ◌-ℤ◌, ◌≤ℤ◌, ◌<ℤ◌, int_le, int_lt, unsigned_abs, Bool, true, false, not, ◌==◌, ◌&&◌, ◌||◌, if◌then◌else◌, List, [], ◌∷◌, Option, Some, None, is_some, refl, sym, subst, arith, lt-ltb, le-leb, eqb-true}
use Rattle.std.specs.Int.{int_rem_euclid, int_min}
use Rattle.std.proofs.lemmas.Int.{ints}
use Rattle.byte_codec.proofs.Laws.{both, and_true}
use Rattle.x3d_values.specs.declared.field_type.FieldType.TheVariants as types
use Rattle.x3d_values.specs.declared.fields.Fields.{Fields}
use Rattle.x3d_values.specs.declared.node_type.NodeType.TheVariants.{TimeSensor}
use Rattle.x3d_values.specs.Kept.{with_value}
use Rattle.x3d_values.specs.Tables.{FieldRowView}
use Rattle.x3d_values.specs.declared.value.Value.{Value}
use Rattle.x3d_values.specs.declared.value.Value.TheVariants.{SFBool, SFTime}
use Rattle.react_core.specs.declared.outbox.SentEvent.{SentEvent}
use Rattle.react_core.specs.Reaction.{reply}
use Rattle.sensor_core.specs.declared.numbers.TheConstants.{CYCLE_INTERVAL, ENABLED, LOOP, PAUSE_TIME, RESUME_TIME, START_TIME, STOP_TIME, IS_ACTIVE, CYCLE_TIME}
use Rattle.sensor_core.specs.Cycles.{cycle_at, part_of_cycle, fraction_at, elapsed_at}
use Rattle.sensor_core.specs.Events.{TimeAnswer, answer, set, changed, is_disabled, is_refused, with_time, with_truth}
use Rattle.sensor_core.specs.Ticks.{Tick, tick, tick_active, tick_inactive, is_started, is_stopped, is_over, last_place, cycle_of, begin_of, end_of, progress, goes_on, ends}
use Rattle.sensor_core.specs.Timing.{TimeFieldsView, is_time, is_interval, are_times, is_timing, time_at, truth_at, checked, timing_of, with_timing}
use Rattle.sensor_core.proofs.CycleLemmas.{cycle_time-rest, cycle_end-length}
use Rattle.snapshot_codec.specs.Fields.{kept_fits}
use Rattle.snapshot_codec.specs.Parts.{cycle_fits}
use Rattle.snapshot_codec.specs.Trace.{is_moment}
use Rattle.snapshot_codec.specs.Values.{value_fits, is_within}
use Rattle.laws_worlds.specs.Answers.{Set, Ticked}
use Rattle.laws_worlds.specs.Ranges.{fields_fit, sent_fits, replies_fit}
use Rattle.laws_worlds.proofs.Pointers.{all_append}
use Rattle.laws_worlds.proofs.Reactions.{moment_fits, set_fits}
use Rattle.laws_worlds.proofs.Rows.{some_is, then_some}
use Rattle.laws_worlds.proofs.Times.{lt_of, moment_is, not_before, part_small, quotient_le, remainder, remainder_le, time_is, time_low}

-- ---- what it keeps

checked_is : (made timing : TimeFieldsView) → checked made ≡ Some timing → is_timing timing ≡ true
unfolding checked
checked_is made timing e = given (is_timing made) refl e
  where
    given : (b : Bool) → is_timing made ≡ b → (if b then Some made else None) ≡ Some timing → is_timing timing ≡ true
    given true h g = subst (λ (t : TimeFieldsView). is_timing t ≡ true) (some_is made timing g) h
    given false h g = absurd cc

-- the values that are read of a TimeSensor's fields are in their ranges
pub timing_is : (fields : Fields) (timing : TimeFieldsView) → timing_of fields ≡ Some timing → is_timing timing ≡ true
unfolding timing_of
timing_is fields timing e =
    let a = then_some _ (time_at fields CYCLE_INTERVAL) timing e in
    let b = then_some _ (truth_at fields ENABLED) timing a.2 in
    let c = then_some _ (truth_at fields LOOP) timing b.2 in
    let d = then_some _ (time_at fields PAUSE_TIME) timing c.2 in
    let f = then_some _ (time_at fields RESUME_TIME) timing d.2 in
    let g = then_some _ (time_at fields START_TIME) timing f.2 in
    let h = then_some _ (time_at fields STOP_TIME) timing g.2 in
    checked_is _ timing h.2

record InTimes (t : TimeFieldsView) : Type 0 where
  positive : int_lt (pos 0) t.cycle_interval ≡ true
  interval : is_time t.cycle_interval ≡ true
  pause : is_time t.pause_time ≡ true
  resume : is_time t.resume_time ≡ true
  start : is_time t.start_time ≡ true
  stop : is_time t.stop_time ≡ true

times_of : (t : TimeFieldsView) → is_timing t ≡ true → InTimes t
times_of t e =
    let a = both (is_interval t.cycle_interval) _ e in
    let b = both (int_lt (pos 0) t.cycle_interval) (is_time t.cycle_interval) a.0 in
    let c = both (are_times t.pause_time t.resume_time) (are_times t.start_time t.stop_time) a.1 in
    let d = both (is_time t.pause_time) (is_time t.resume_time) c.0 in
    let f = both (is_time t.start_time) (is_time t.stop_time) c.1 in
    record { positive = b.0; interval = b.1; pause = d.0; resume = d.1; start = f.0; stop = f.1 }

not_or : (a b : Bool) → (a || b) ≡ false → (a ≡ false) × (b ≡ false)
not_or true b e = absurd cc
not_or false b e = (refl, e)

positive_of : (active : Bool) (t : TimeFieldsView) (input : ℕ) (time : ℤ) → is_refused active t input time ≡ false → input ≡ CYCLE_INTERVAL → int_lt (pos 0) time ≡ true
positive_of active t input time e is =
    let f : (active || int_le time (pos 0)) ≡ false = subst (λ (n : ℕ). is_refused active t n time ≡ false) is e in
    let g = not_or active (int_le time (pos 0)) f in
    above time g.1
  where
    above : (z : ℤ) → int_le z (pos 0) ≡ false → int_lt (pos 0) z ≡ true
    above z h = grind (arith, ints)

-- ---- what is sent of a place

fraction_fits : (start interval x : ℤ) → pos 0 <ℤ interval → is_within (10 ^ 15) (fraction_at start interval x) ≡ true
unfolding fraction_at
fraction_fits start interval x h = given (int_lt start x && (unsigned_abs (int_rem_euclid (x -ℤ start) interval) == 0))
  where
    given : (b : Bool) → is_within (10 ^ 15) (if b then pos 1000000 else part_of_cycle (x -ℤ start) interval) ≡ true
    given true = refl
    given false =
        let r = remainder (x -ℤ start) interval h in
        let s = part_small (unsigned_abs (int_rem_euclid (x -ℤ start) interval)) (unsigned_abs interval) r.1 in
        le-leb _ _ (omega (arith, s))

elapsed_fits : (start x : ℤ) → negsuc (10 ^ 18 - 1) ≤ℤ (x -ℤ start) → is_within (10 ^ 18) (elapsed_at start x) ≡ true
unfolding elapsed_at
elapsed_fits start x l = given (x -ℤ start) l
  where
    given : (z : ℤ) → negsuc (10 ^ 18 - 1) ≤ℤ z → is_within (10 ^ 18) (int_min z (pos (10 ^ 18))) ≡ true
    given z h = choose (int_lt (pos (10 ^ 18)) z) refl
      where
        choose : (b : Bool) → int_lt (pos (10 ^ 18)) z ≡ b → is_within (10 ^ 18) (if b then pos (10 ^ 18) else z) ≡ true
        choose true e = refl
        choose false e = time_is z h (grind (arith, ints))

-- ---- a TimeSensor with these fields behind those of its type

module _ (ds : List FieldRowView) where
  abbrev pub Sent : List SentEvent → Type 0
  Sent replies = replies_fit TimeSensor ds replies ≡ true

  pub with_timing_fits : (fields : Fields) (t : TimeFieldsView) → fields_fit TimeSensor ds fields ≡ true → is_timing t ≡ true → fields_fit TimeSensor ds (with_timing fields t) ≡ true
  unfolding with_timing kept_fits value_fits
  with_timing_fits fields t f e =
      let r = times_of t e in
      let f1 : Fields = with_value fields CYCLE_INTERVAL (SFTime t.cycle_interval) in
      let f2 : Fields = with_value f1 ENABLED (SFBool t.enabled) in
      let f3 : Fields = with_value f2 LOOP (SFBool t.looping) in
      let f4 : Fields = with_value f3 PAUSE_TIME (SFTime t.pause_time) in
      let f5 : Fields = with_value f4 RESUME_TIME (SFTime t.resume_time) in
      let f6 : Fields = with_value f5 START_TIME (SFTime t.start_time) in
      let k1 = set_fits ds TimeSensor fields CYCLE_INTERVAL _ (SFTime t.cycle_interval) f refl (and_true _ _ r.interval r.positive) in
      let k2 = set_fits ds TimeSensor f1 ENABLED _ (SFBool t.enabled) k1 refl refl in
      let k3 = set_fits ds TimeSensor f2 LOOP _ (SFBool t.looping) k2 refl refl in
      let k4 = set_fits ds TimeSensor f3 PAUSE_TIME _ (SFTime t.pause_time) k3 refl r.pause in
      let k5 = set_fits ds TimeSensor f4 RESUME_TIME _ (SFTime t.resume_time) k4 refl r.resume in
      let k6 = set_fits ds TimeSensor f5 START_TIME _ (SFTime t.start_time) k5 refl r.start in
      set_fits ds TimeSensor f6 STOP_TIME _ (SFTime t.stop_time) k6 refl r.stop

  -- ---- an event

  -- the new values are in their ranges, and the event may be sent
  Good : ℕ → Value → Option TimeFieldsView → Type 0
  Good input value None = Unit {0}
  Good input value (Some new) = (is_timing new ≡ true) × (sent_fits TimeSensor ds input value ≡ true)

  good_if : (input wanted : ℕ) (value : Value) (new : TimeFieldsView) (rest : Option TimeFieldsView) → (input ≡ wanted → (is_timing new ≡ true) × (sent_fits TimeSensor ds input value ≡ true)) → Good input value rest → Good input value (if input == wanted then Some new else rest)
  unfolding Good
  good_if input wanted value new rest here r = given (input == wanted) refl
    where
      given : (b : Bool) → (input == wanted) ≡ b → Good input value (if b then Some new else rest)
      given true e = here (eqb-true input wanted e)
      given false e = r

  -- the same event at a field of that number
  sent_at : (input wanted : ℕ) (value : Value) → input ≡ wanted → sent_fits TimeSensor ds wanted value ≡ true → sent_fits TimeSensor ds input value ≡ true
  sent_at input wanted value e s = subst (λ (n : ℕ). sent_fits TimeSensor ds n value ≡ true) (sym e) s

  truths_good : (t : TimeFieldsView) (input : ℕ) (truth : Bool) → is_timing t ≡ true → Good input (SFBool truth) (with_truth t input truth)
  unfolding Good value_fits
  truths_good t input truth f =
      good_if input ENABLED (SFBool truth) _ _ (λ e. (f, sent_at input ENABLED (SFBool truth) e refl))
      (good_if input LOOP (SFBool truth) _ None (λ e. (f, sent_at input LOOP (SFBool truth) e refl)) tt)

  times_good : (active : Bool) (t : TimeFieldsView) (input : ℕ) (time : ℤ) → is_timing t ≡ true → is_refused active t input time ≡ false → is_time time ≡ true → Good input (SFTime time) (with_time t input time)
  unfolding Good value_fits
  times_good active t input time f r k =
      let i = times_of t f in
      good_if input CYCLE_INTERVAL (SFTime time) _ _ (λ e. (and_true _ _ (and_true _ _ (positive_of active t input time r e) k) (both (is_interval t.cycle_interval) _ f).1, sent_at input CYCLE_INTERVAL (SFTime time) e k))
      (good_if input PAUSE_TIME (SFTime time) _ _ (λ e. (timing_with t.cycle_interval time t.resume_time t.start_time t.stop_time i.positive i.interval k i.resume i.start i.stop, sent_at input PAUSE_TIME (SFTime time) e k))
      (good_if input RESUME_TIME (SFTime time) _ _ (λ e. (timing_with t.cycle_interval t.pause_time time t.start_time t.stop_time i.positive i.interval i.pause k i.start i.stop, sent_at input RESUME_TIME (SFTime time) e k))
      (good_if input START_TIME (SFTime time) _ _ (λ e. (timing_with t.cycle_interval t.pause_time t.resume_time time t.stop_time i.positive i.interval i.pause i.resume k i.stop, sent_at input START_TIME (SFTime time) e k))
      (good_if input STOP_TIME (SFTime time) _ None (λ e. (timing_with t.cycle_interval t.pause_time t.resume_time t.start_time time i.positive i.interval i.pause i.resume i.start k, sent_at input STOP_TIME (SFTime time) e k)) tt))))
    where
      timing_with : (c p q s u : ℤ) → int_lt (pos 0) c ≡ true → is_time c ≡ true → is_time p ≡ true → is_time q ≡ true → is_time s ≡ true → is_time u ≡ true → (is_interval c && (are_times p q && are_times s u)) ≡ true
      timing_with c p q s u c0 c1 p1 q1 s1 u1 = and_true _ _ (and_true _ _ c0 c1) (and_true _ _ (and_true _ _ p1 q1) (and_true _ _ s1 u1))

  changed_good : (active : Bool) (t : TimeFieldsView) (input : ℕ) (value : Value) → is_timing t ≡ true → Good input value (changed active t input value)
  unfolding Good changed
  changed_good active t input (SFBool truth) f = truths_good t input truth f
  changed_good active t input (SFTime time) f = given (is_refused active t input time || not (is_time time)) refl
    where
      is_true : (b : Bool) → not b ≡ false → b ≡ true
      is_true true e = refl
      is_true false e = absurd cc

      given : (b : Bool) → (is_refused active t input time || not (is_time time)) ≡ b → Good input (SFTime time) (if b then None else with_time t input time)
      given true e = tt
      given false e =
          let n = not_or (is_refused active t input time) (not (is_time time)) e in
          times_good active t input time f n.0 (is_true (is_time time) n.1)
  changed_good active t input _ f = tt

  answered : (fields : Fields) (cycle : Option ℕ) (t : TimeFieldsView) (input : ℕ) (value : Value) (new : Option TimeFieldsView) → fields_fit TimeSensor ds fields ≡ true → is_timing t ≡ true → cycle_fits cycle ≡ true → Good input value new → Set ds fields (answer cycle t input value new)
  unfolding Good value_fits
  answered fields cycle t input value None f k c g = record { in_fields = with_timing_fits fields t f k; in_cycle = c; in_replies = refl }
  answered fields cycle t input value (Some new) f k c g = disabled (is_disabled new input) (is_some cycle)
    where
      disabled : (b d : Bool) → Set ds fields (if b
          then (let a : TimeAnswer = record { cycle = None; timing = new; replies = reply input value ∷ (if d then reply IS_ACTIVE (SFBool false) ∷ [] else []) } in a)
          else (let a : TimeAnswer = record { cycle = cycle; timing = new; replies = reply input value ∷ [] } in a))
      disabled true true = record { in_fields = with_timing_fits fields new f g.0; in_cycle = refl; in_replies = and_true _ _ g.1 refl }
      disabled true false = record { in_fields = with_timing_fits fields new f g.0; in_cycle = refl; in_replies = and_true _ _ g.1 refl }
      disabled false d = record { in_fields = with_timing_fits fields new f g.0; in_cycle = c; in_replies = and_true _ _ g.1 refl }

  pub all_sets_fit : (fields : Fields) (timing : TimeFieldsView) (cycle : Option ℕ) (input : ℕ) (value : Value) → fields_fit TimeSensor ds fields ≡ true → timing_of fields ≡ Some timing → cycle_fits cycle ≡ true → Set ds fields (set cycle timing input value)
  unfolding set
  all_sets_fit fields timing cycle input value f e c =
      let k = timing_is fields timing e in
      answered fields cycle timing input value _ f k c (changed_good (is_some cycle) timing input value k)

  -- ---- a tick

  module _ (t : TimeFieldsView) (fit : InTimes t) (now : ℤ) (moment : is_moment now ≡ true) where
    interval_above : pos 0 <ℤ t.cycle_interval
    interval_above = lt_of (pos 0) t.cycle_interval fit.positive

    progress_sent : (x : ℤ) → negsuc (10 ^ 18 - 1) ≤ℤ (x -ℤ t.start_time) → Sent (progress t x now)
    unfolding value_fits
    progress_sent x l =
        and_true _ _ (fraction_fits t.start_time t.cycle_interval x interval_above)
        (and_true _ _ (elapsed_fits t.start_time x l) (and_true _ _ (moment_fits now moment) refl))

    now_low : negsuc (10 ^ 18 - 1) ≤ℤ (now -ℤ t.start_time)
    now_low = let s = time_low t.start_time fit.start in let m = moment_is now moment in omega (arith, ints, s.1, m.0)

    begin_fits : t.start_time ≤ℤ now → value_fits types.SFTime (SFTime (begin_of t now)) ≡ true
    unfolding value_fits
    begin_fits l =
        let s = time_low t.start_time fit.start in
        let m = moment_is now moment in
        let z : ℤ = now -ℤ t.start_time in
        let r = remainder z t.cycle_interval interval_above in
        let q = remainder_le z t.cycle_interval (omega (arith, ints, l)) interval_above in
        let e = cycle_time-rest t.start_time t.cycle_interval now (int_rem_euclid z t.cycle_interval) interval_above refl in
        subst (λ (y : ℤ). is_within (10 ^ 18) y ≡ true) e (time_is (now -ℤ int_rem_euclid z t.cycle_interval) (omega (arith, ints, s.0, q)) (omega (arith, ints, m.1, r.0)))

    cycle_small : t.start_time ≤ℤ now → cycle_fits (Some (unsigned_abs (cycle_of t now))) ≡ true
    unfolding cycle_at
    cycle_small l =
        let s = time_low t.start_time fit.start in
        let m = moment_is now moment in
        let z : ℤ = now -ℤ t.start_time in
        let q = quotient_le z t.cycle_interval (omega (arith, ints, l)) interval_above in
        lt-ltb _ _ (omega (arith, ints, q, s.0, m.1))

    inactive : Ticked ds (tick_inactive t now)
    unfolding value_fits
    inactive = given (is_started t now) refl
      where
        start_before : is_started t now ≡ true → t.start_time ≤ℤ now
        start_before e = le_of t.start_time now (both (int_le t.start_time now) _ (both t.enabled _ e).1).0
          where
            le_of : (x y : ℤ) → int_le x y ≡ true → x ≤ℤ y
            le_of x y h = grind (arith, ints)

        given : (b : Bool) → is_started t now ≡ b → Ticked ds (if b
            then (let k : Tick = record { cycle = Some (unsigned_abs (cycle_of t now)); replies = reply IS_ACTIVE (SFBool true) ∷ reply CYCLE_TIME (SFTime (begin_of t now)) ∷ progress t now now } in k)
            else (let k : Tick = record { cycle = None; replies = [] } in k))
        given true e = record { in_cycle = cycle_small (start_before e); in_replies = and_true _ _ (begin_fits (start_before e)) (progress_sent now now_low) }
        given false e = record { in_cycle = refl; in_replies = refl }

    going : (cycle : ℕ) → cycle_fits (Some cycle) ≡ true → Ticked ds (goes_on t cycle now)
    unfolding value_fits cycle_at
    going cycle c = given (int_lt (pos cycle) (cycle_of t now)) refl
      where
        start_before : int_lt (pos cycle) (cycle_of t now) ≡ true → t.start_time ≤ℤ now
        start_before e =
            let z = not_before (now -ℤ t.start_time) t.cycle_interval cycle interval_above (lt_of (pos cycle) (cycle_of t now) e) in
            omega (arith, ints, z)

        given : (b : Bool) → int_lt (pos cycle) (cycle_of t now) ≡ b → Ticked ds (if b
            then (let k : Tick = record { cycle = Some (unsigned_abs (cycle_of t now)); replies = reply CYCLE_TIME (SFTime (begin_of t now)) ∷ progress t now now } in k)
            else (let k : Tick = record { cycle = Some cycle; replies = progress t now now } in k))
        given true e = record { in_cycle = cycle_small (start_before e); in_replies = and_true _ _ (begin_fits (start_before e)) (progress_sent now now_low) }
        given false e = record { in_cycle = c; in_replies = progress_sent now now_low }

    ending : (x : ℤ) → negsuc (10 ^ 18 - 1) ≤ℤ (x -ℤ t.start_time) → Ticked ds (ends t x now)
    unfolding value_fits
    ending x l = record { in_cycle = refl; in_replies = all_append (λ (r : SentEvent). sent_fits TimeSensor ds r.field r.value) (progress t x now) (reply IS_ACTIVE (SFBool false) ∷ []) (progress_sent x l) refl }

    active : (cycle : ℕ) → cycle_fits (Some cycle) ≡ true → Ticked ds (tick_active t cycle now (last_place t cycle now))
    unfolding last_place
    active cycle c = over (is_over t cycle now)
      where
        end_low : negsuc (10 ^ 18 - 1) ≤ℤ (end_of t cycle -ℤ t.start_time)
        end_low =
            let e = cycle_end-length t.start_time t.cycle_interval cycle interval_above in
            subst (λ (z : ℤ). negsuc (10 ^ 18 - 1) ≤ℤ (z -ℤ t.start_time)) (sym e) (omega (arith, ints))

        stopped : (b : Bool) → Ticked ds (tick_active t cycle now (if b then Some now else None))
        stopped true = ending now now_low
        stopped false = going cycle c

        over : (b : Bool) → Ticked ds (tick_active t cycle now (if b then Some (end_of t cycle) else (if is_stopped t now then Some now else None)))
        over true = ending (end_of t cycle) end_low
        over false = stopped (is_stopped t now)

  pub all_ticks_fit : (t : TimeFieldsView) (cycle : Option ℕ) (now : ℤ) → is_timing t ≡ true → cycle_fits cycle ≡ true → is_moment now ≡ true → Ticked ds (tick cycle t now)
  unfolding tick
  all_ticks_fit t None now k c m = inactive t (times_of t k) now m
  all_ticks_fit t (Some cycle) now k c m = active t (times_of t k) now m cycle c
