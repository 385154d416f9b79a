-- What a node does at an event keeps the ranges of its fields.
use Rattle.std.proofs.Common.{◌≡◌, ℕ, zero, suc, ◌-◌, ◌^◌, ◌<◌, ℤ, pos, negsuc, Bool, true, false, not, ◌&&◌, ◌==◌, if◌then◌else◌, List, [], ◌∷◌, ◌++◌, length, map, Option, Some, None, slice_get, option_map, nat_lt, refl, sym, ap, subst, ◌∙◌, arith}
use Rattle.std.specs.Option.{option_and_then, option_map_or}
use Rattle.std.specs.Int.{w32}
use Rattle.std.proofs.lemmas.Bool.{lt-ltb, ltb-true, leb-true, le-leb}
use Rattle.std.proofs.lemmas.Option.{slice_get_within}
use Rattle.byte_codec.specs.Codec.{all_fit, signed}
use Rattle.byte_codec.proofs.Laws.{both, and_true}
use Rattle.x3d_values.specs.declared.field_type.Access.{Access}
use Rattle.x3d_values.specs.declared.field_type.Access.TheVariants.{InputOutput}
use Rattle.x3d_values.specs.declared.field_type.FieldType.{FieldType}
use Rattle.x3d_values.specs.declared.field_type.FieldType.TheVariants as types
use Rattle.x3d_values.specs.declared.fields.Fields.{Fields}
use Rattle.x3d_values.specs.declared.node_type.NodeType.{NodeType}
use Rattle.x3d_values.specs.declared.node_type.NodeType.TheVariants.{TimeSensor, ScalarInterpolator, PositionInterpolator, PositionInterpolator2D, CoordinateInterpolator, BooleanSequencer, IntegerSequencer, BooleanFilter, BooleanToggle, BooleanTrigger, IntegerTrigger, TimeTrigger}
use Rattle.x3d_values.specs.declared.value.Value.{Value}
use Rattle.x3d_values.specs.declared.value.Value.TheVariants.{SFBool, SFInt32, SFTime, MFInt32}
use Rattle.x3d_values.specs.Access.{is_exposed, sends as is_sender}
use Rattle.x3d_values.specs.Kept.{field_value, with_value}
use Rattle.x3d_values.specs.Tables.{FieldRowView, rows, numbered}
use Rattle.x3d_values.specs.Values.{type_of}
use Rattle.react_core.specs.Access.{is_kept, are_same, names_nodes}
use Rattle.react_core.specs.Keys.{have_steps}
use Rattle.react_core.specs.Interpolation.{interpolated}
use Rattle.react_core.specs.Reaction.{Reaction, reply, nothing, sends, keeps, with_some, at_input, stored, interpolator_value, interpolator, steps_to, sequencer, filter, toggle, boolean_trigger, integer_trigger, time_trigger, answer, is_time_sensor, reaction}
use Rattle.react_core.specs.Sequence.{place_after, step_after, is_sequence, stepped, step}
use Rattle.react_core.specs.Stored.{truth_of, integer_of, number_of, time_of, truths_of, integers_of, numbers_of}
use Rattle.react_core.specs.declared.numbers.TheConstants.{KEY, KEY_VALUE, SET_FRACTION, VALUE_CHANGED, SEQUENCE_CHANGED, SET_BOOLEAN, TOGGLE, SET_TRIGGER_TIME, INTEGER_KEY}
use Rattle.react_core.specs.declared.outbox.SentEvent.{SentEvent}
use Rattle.react_core.specs.declared.sequence.Keyed.{Keyed}
use Rattle.snapshot_codec.specs.Fields.{has_bytes, is_interval, kept_field, kept_fits}
use Rattle.snapshot_codec.specs.Trace.{is_moment, typed_fits}
use Rattle.snapshot_codec.specs.Values.{value_fits}
use Rattle.laws_worlds.specs.Answers.{Fit}
use Rattle.laws_worlds.specs.Ranges.{row_at, event_fits, sent_fits, replies_fit, position_fits, fields_fit}
use Rattle.laws_worlds.proofs.Between.{scalar_fits, position_fits as vector_fits, point_fits, coordinates_fit}
use Rattle.laws_worlds.proofs.Rows.{some_is, then_some, map_some, get_left, kept_by, values-get, values-set}

-- ---- values, without their fields

stands : (values : List (Option Value)) (n : ℕ) (value : Value) → option_and_then (λ (v : Option Value). v) (slice_get values n) ≡ Some value → slice_get values n ≡ Some (Some value)
stands values n value e =
    let s = then_some (λ (v : Option Value). v) (slice_get values n) value e in
    s.1 ∙ ap (λ (o : Option Value). Some o) s.2

bytes_of : (ft : FieldType) (value : Value) → value_fits ft value ≡ true → has_bytes ft ≡ true
unfolding value_fits
bytes_of types.SFNode value e = absurd cc
bytes_of types.MFNode value e = absurd cc
bytes_of types.SFRotation value e = absurd cc
bytes_of _ value e = refl

exposed_fits : (t : NodeType) (n : ℕ) (access : Access) (ft : FieldType) (value : Value) → is_exposed access ≡ true → value_fits ft value ≡ true → is_interval t n ≡ false → kept_fits (kept_field t n access ft) (Some value) ≡ true
unfolding kept_fits
exposed_fits t n InputOutput ft value e f i = rw (i, bytes_of ft value f) f
exposed_fits t n _ ft value e f i = absurd cc

exposed_sent : (access : Access) (ft : FieldType) (value : Value) → is_exposed access ≡ true → value_fits ft value ≡ true → (is_sender access && value_fits ft value) ≡ true
exposed_sent InputOutput ft value e f = f
exposed_sent _ ft value e f = absurd cc

no_interval : (t : NodeType) (n : ℕ) → is_time_sensor t ≡ false → is_interval t n ≡ false
no_interval TimeSensor n e = absurd cc
no_interval _ n e = refl

exposed_row : (t : NodeType) (input : ℕ) (value : Value) (o : Option FieldRowView) →
    option_map_or (λ row. is_exposed row.access && (are_same row.field_type (type_of value) && not (names_nodes value))) (option_map (numbered input) o) false ≡ true →
    (row : FieldRowView) × (o ≡ Some row) × (is_exposed row.access ≡ true)
exposed_row t input value None e = absurd cc
exposed_row t input value (Some row) e = (row, refl, (both _ _ e).0)

place_small : (fields : Fields) (input : ℕ) (value : Value) (count at : ℕ) → place_after fields input value count ≡ Some at → count < 2 ^ 32
unfolding place_after
place_small fields input value count at e =
    let a = then_some (λ (keys : List ℤ). if is_sequence keys count then stepped keys fields.position input value else None) (option_and_then numbers_of (field_value fields KEY)) at e in
    given a.0 (is_sequence a.0 count) refl a.2
  where
    given : (keys : List ℤ) (b : Bool) → is_sequence keys count ≡ b → (if b then stepped keys fields.position input value else None) ≡ Some at → count < 2 ^ 32
    given keys true h g = ltb-true _ _ (both (count == length keys) (nat_lt count (2 ^ 32)) (both (have_steps keys) _ h).1).1
    given keys false h g = absurd cc

truths_sent : (truths : List Bool) (at : ℕ) (v : Value) → slice_get (map SFBool truths) at ≡ Some v → value_fits types.SFBool v ≡ true
unfolding value_fits
truths_sent [] at v e = absurd cc
truths_sent (b ∷ truths) zero v e = subst (λ (x : Value). value_fits types.SFBool x ≡ true) (some_is (SFBool b) v e) refl
truths_sent (b ∷ truths) (suc at) v e = truths_sent truths at v e

integers_sent : (numbers : List ℤ) (at : ℕ) (v : Value) → all_fit (signed w32) numbers ≡ true → slice_get (map SFInt32 numbers) at ≡ Some v → value_fits types.SFInt32 v ≡ true
unfolding value_fits
integers_sent [] at v f e = absurd cc
integers_sent (n ∷ numbers) zero v f e = subst (λ (x : Value). value_fits types.SFInt32 x ≡ true) (some_is (SFInt32 n) v e) (both _ _ f).0
integers_sent (n ∷ numbers) (suc at) v f e = integers_sent numbers at v (both _ _ f).1 e

integers_fit : (v : Value) (numbers : List ℤ) → value_fits types.MFInt32 v ≡ true → integers_of v ≡ Some numbers → all_fit (signed w32) numbers ≡ true
unfolding value_fits
integers_fit (MFInt32 ns) numbers f e = subst (λ (xs : List ℤ). all_fit (signed w32) xs ≡ true) (some_is ns numbers e) (both _ _ f).1
integers_fit _ numbers f e = absurd cc

integer_fits : (v : Value) (key : ℤ) → value_fits types.SFInt32 v ≡ true → integer_of v ≡ Some key → value_fits types.SFInt32 (SFInt32 key) ≡ true
unfolding value_fits
integer_fits (SFInt32 n) key f e = subst (λ (k : ℤ). value_fits types.SFInt32 (SFInt32 k) ≡ true) (some_is n key e) f
integer_fits _ key f e = absurd cc

-- the time of an input is one of a field
pub moment_fits : (time : ℤ) → is_moment time ≡ true → value_fits types.SFTime (SFTime time) ≡ true
unfolding value_fits
moment_fits (pos n) e = let b = both _ _ e in le-leb _ _ (leb-true _ _ b.1)
moment_fits (negsuc n) e = absurd cc

-- the values that it may send fit, and it is a sequencer
record IsSequencer (t : NodeType) (ds : List FieldRowView) (list : List Value) : Type 0 where
  position : (at : ℕ) → at < 2 ^ 32 - 1 → position_fits t (record { at = Some at }) ≡ true
  values : (at : ℕ) (v : Value) → slice_get list at ≡ Some v → sent_fits t ds SEQUENCE_CHANGED v ≡ true

-- ---- a node with these fields behind those of its type

module _ (ds : List FieldRowView) where
  -- ---- one field

  -- what a node keeps of a field is as its row says
  pub field_fits : (t : NodeType) (fields : Fields) (n : ℕ) (row : FieldRowView) (value : Value) → fields_fit t ds fields ≡ true → row_at t ds n ≡ Some row → field_value fields n ≡ Some value → kept_by t n row (Some value) ≡ true
  field_fits t fields n row value f p q =
      values-get t 0 (rows t ++ ds) fields.values n n row (Some value) (both _ _ f).0 p (stands fields.values n value q) (omega arith)

  pub set_fits : (t : NodeType) (fields : Fields) (n : ℕ) (row : FieldRowView) (value : Value) → fields_fit t ds fields ≡ true → row_at t ds n ≡ Some row → kept_by t n row (Some value) ≡ true → fields_fit t ds (with_value fields n value) ≡ true
  set_fits t fields n row value f p k =
      let b = both _ _ f in
      and_true _ _ (values-set t 0 (rows t ++ ds) fields.values n n row (Some value) b.0 p k (omega arith)) b.1

  -- ---- the forms of reactions

  module _ (t : NodeType) (fields : Fields) (fit : fields_fit t ds fields ≡ true) where
    still : Fit t ds (nothing fields)
    still = record { in_fields = fit; in_replies = refl }

    sending : (replies : List SentEvent) → replies_fit t ds replies ≡ true → Fit t ds (sends fields replies)
    sending replies r = record { in_fields = fit; in_replies = r }

    some_fits : {X : Type 0} (o : Option X) (does : X → Reaction) → ((x : X) → o ≡ Some x → Fit t ds (does x)) → Fit t ds (with_some fields o does)
    some_fits None does h = still
    some_fits (Some x) does h = h x refl

    at_fits : (input wanted : ℕ) (r : Reaction) → Fit t ds r → Fit t ds (at_input fields input wanted r)
    at_fits input wanted r h = choose (input == wanted)
      where
        choose : (b : Bool) → Fit t ds (if b then r else nothing fields)
        choose true = h
        choose false = still

    if_fits : (b : Bool) (r : Reaction) → Fit t ds r → Fit t ds (if b then r else nothing fields)
    if_fits true r h = h
    if_fits false r h = still

  -- ---- a field that an event sets

  pub set_field_fits : (t : NodeType) (fields : Fields) (input : ℕ) (value : Value) (row : FieldRowView) → fields_fit t ds fields ≡ true → event_fits t ds input value ≡ true → is_time_sensor t ≡ false → row_at t ds input ≡ Some row → is_exposed row.access ≡ true → Fit t ds (keeps fields input value)
  set_field_fits t fields input value row f v s is k =
      let typed : value_fits row.field_type value ≡ true = subst (λ (o : Option FieldRowView). typed_fits (option_map (λ (row : FieldRowView). row.field_type) o) value ≡ true) is v in
      let sent : sent_fits t ds input value ≡ true = subst (λ (o : Option FieldRowView). option_map_or (λ (row : FieldRowView). is_sender row.access && value_fits row.field_type value) o false ≡ true) (sym is) (exposed_sent row.access row.field_type value k typed) in
      record {
        in_fields = set_fits t fields input row value f is (exposed_fits t input row.access row.field_type value k typed (no_interval t input s));
        in_replies = and_true _ _ sent refl;
      }

  keeps_fit : (t : NodeType) (fields : Fields) (input : ℕ) (value : Value) → fields_fit t ds fields ≡ true → event_fits t ds input value ≡ true → is_time_sensor t ≡ false → is_kept t input value ≡ true → Fit t ds (keeps fields input value)
  keeps_fit t fields input value f v s k =
      let r = exposed_row t input value (slice_get (rows t) input) k in
      set_field_fits t fields input value r.0 f v s (get_left (rows t) ds input r.0 r.1) r.2

  -- ---- interpolators

  -- what it sends fits, if that is so for the values that it keeps
  Changes : NodeType → Fields → Type 0
  Changes t fields = (keys : List ℤ) (values : Value) (fraction : ℤ) (x : Value) → field_value fields KEY_VALUE ≡ Some values → interpolated t keys values fraction ≡ Some x → sent_fits t ds VALUE_CHANGED x ≡ true

  interpolates : (t : NodeType) (fields : Fields) (input : ℕ) (value : Value) → fields_fit t ds fields ≡ true → Changes t fields → Fit t ds (interpolator t fields input value)
  unfolding Changes
  interpolates t fields input value f h = at_fits t fields f input SET_FRACTION _ (some_fits t fields f (interpolator_value t fields value) _ (λ x e.
      let a = then_some _ (number_of value) x e in
      let b = then_some _ (stored numbers_of fields KEY) x a.2 in
      let c = then_some _ (field_value fields KEY_VALUE) x b.2 in
      sending t fields f _ (and_true _ _ (h b.0 c.0 a.0 x c.1 c.2) refl)))

  -- ---- sequencers

  steps : (t : NodeType) (fields : Fields) (input : ℕ) (value : Value) (list : Option (List Value)) → fields_fit t ds fields ≡ true → ((l : List Value) → list ≡ Some l → IsSequencer t ds l) → Fit t ds (sequencer fields input value list)
  steps t fields input value list f h = some_fits t fields f (option_and_then (step_after fields input value) list) _ (λ s e.
      let a = then_some (step_after fields input value) list s e in
      let q = h a.0 a.1 in
      let b = then_some (λ (at : ℕ). option_map (step at) (slice_get a.0 at)) (place_after fields input value (length a.0)) s a.2 in
      let c = map_some (step b.0) (slice_get a.0 b.0) s b.2 in
      let few = place_small fields input value (length a.0) b.0 b.1 in
      let inside = slice_get_within a.0 b.0 c.0 c.1 in
      subst (λ (x : Keyed). Fit t ds (steps_to fields x)) c.2 (record {
        in_fields = and_true _ _ (both _ _ f).0 (q.position b.0 (omega (arith, few, inside)));
        in_replies = and_true _ _ (q.values b.0 c.0 c.1) refl;
      }))

  boolean_steps : (l : List Value) (o : Option (List Bool)) → option_map (map SFBool) o ≡ Some l → IsSequencer BooleanSequencer ds l
  boolean_steps l o e =
      let a = map_some (map SFBool) o l e in
      subst (λ (xs : List Value). IsSequencer BooleanSequencer ds xs) a.2 (record {
        position = λ at small. lt-ltb _ _ small;
        values = λ at v s. truths_sent a.0 at v s;
      })

  integer_steps : (fields : Fields) (l : List Value) → fields_fit IntegerSequencer ds fields ≡ true → option_map (map SFInt32) (stored integers_of fields KEY_VALUE) ≡ Some l → IsSequencer IntegerSequencer ds l
  unfolding kept_fits
  integer_steps fields l f e =
      let a = map_some (map SFInt32) (stored integers_of fields KEY_VALUE) l e in
      let b = then_some integers_of (field_value fields KEY_VALUE) a.0 a.1 in
      let kept : value_fits types.MFInt32 b.0 ≡ true = field_fits IntegerSequencer fields KEY_VALUE _ b.0 f refl b.1 in
      subst (λ (xs : List Value). IsSequencer IntegerSequencer ds xs) a.2 (record {
        position = λ at small. lt-ltb _ _ small;
        values = λ at v s. integers_sent a.0 at v (integers_fit b.0 a.0 kept b.2) s;
      })

  -- ---- event utilities

  filters : (fields : Fields) (input : ℕ) (value : Value) → fields_fit BooleanFilter ds fields ≡ true → Fit BooleanFilter ds (filter fields input value)
  unfolding value_fits
  filters fields input value f = at_fits BooleanFilter fields f input SET_BOOLEAN _ (some_fits BooleanFilter fields f (truth_of value) _ both_ways)
    where
      both_ways : (truth : Bool) → truth_of value ≡ Some truth → Fit BooleanFilter ds (sends fields (reply (if truth then 2 else 3) (SFBool truth) ∷ reply 4 (SFBool (not truth)) ∷ []))
      both_ways true e = sending BooleanFilter fields f _ refl
      both_ways false e = sending BooleanFilter fields f _ refl

  toggles : (fields : Fields) (input : ℕ) (value : Value) → fields_fit BooleanToggle ds fields ≡ true → Fit BooleanToggle ds (toggle fields input value)
  unfolding kept_fits value_fits
  toggles fields input value f = at_fits BooleanToggle fields f input SET_BOOLEAN _ (some_fits BooleanToggle fields f (truth_of value) _ (λ truth e.
      if_fits BooleanToggle fields f truth _ (some_fits BooleanToggle fields f (stored truth_of fields TOGGLE) _ (λ now g. record {
        in_fields = set_fits BooleanToggle fields TOGGLE _ (SFBool (not now)) f refl refl;
        in_replies = refl;
      }))))

  triggers : (fields : Fields) (input : ℕ) (value : Value) → fields_fit BooleanTrigger ds fields ≡ true → Fit BooleanTrigger ds (boolean_trigger fields input value)
  unfolding value_fits
  triggers fields input value f = at_fits BooleanTrigger fields f input SET_TRIGGER_TIME _ (some_fits BooleanTrigger fields f (time_of value) _ (λ time e. sending BooleanTrigger fields f _ refl))

  integer_triggers : (fields : Fields) (input : ℕ) (value : Value) → fields_fit IntegerTrigger ds fields ≡ true → Fit IntegerTrigger ds (integer_trigger fields input value)
  unfolding kept_fits
  integer_triggers fields input value f = at_fits IntegerTrigger fields f input SET_BOOLEAN _ (some_fits IntegerTrigger fields f (truth_of value) _ (λ truth e.
      if_fits IntegerTrigger fields f truth _ (some_fits IntegerTrigger fields f (stored integer_of fields INTEGER_KEY) _ (λ key g.
      let a = then_some integer_of (field_value fields INTEGER_KEY) key g in
      let kept : value_fits types.SFInt32 a.0 ≡ true = field_fits IntegerTrigger fields INTEGER_KEY _ a.0 f refl a.1 in
      sending IntegerTrigger fields f _ (and_true _ _ (integer_fits a.0 key kept a.2) refl)))))

  time_triggers : (fields : Fields) (input : ℕ) (value : Value) (time : ℤ) → is_moment time ≡ true → fields_fit TimeTrigger ds fields ≡ true → Fit TimeTrigger ds (time_trigger fields input value time)
  time_triggers fields input value time m f = at_fits TimeTrigger fields f input SET_BOOLEAN _ (some_fits TimeTrigger fields f (truth_of value) _ (λ truth e. sending TimeTrigger fields f _ (and_true _ _ (moment_fits time m) refl)))

  -- ---- all nodes

  answers : (t : NodeType) (fields : Fields) (input : ℕ) (value : Value) (time : ℤ) → is_moment time ≡ true → fields_fit t ds fields ≡ true → Fit t ds (answer t fields input value time)
  unfolding kept_fits Changes
  answers ScalarInterpolator fields input value time m f = interpolates ScalarInterpolator fields input value f (λ keys values fraction x p q. scalar_fits keys values fraction x (field_fits ScalarInterpolator fields KEY_VALUE _ values f refl p) q)
  answers PositionInterpolator fields input value time m f = interpolates PositionInterpolator fields input value f (λ keys values fraction x p q. vector_fits keys values fraction x (field_fits PositionInterpolator fields KEY_VALUE _ values f refl p) q)
  answers PositionInterpolator2D fields input value time m f = interpolates PositionInterpolator2D fields input value f (λ keys values fraction x p q. point_fits keys values fraction x (field_fits PositionInterpolator2D fields KEY_VALUE _ values f refl p) q)
  answers CoordinateInterpolator fields input value time m f = interpolates CoordinateInterpolator fields input value f (λ keys values fraction x p q. coordinates_fit keys values fraction x (field_fits CoordinateInterpolator fields KEY_VALUE _ values f refl p) q)
  answers BooleanSequencer fields input value time m f = steps BooleanSequencer fields input value _ f (λ l e. boolean_steps l (stored truths_of fields KEY_VALUE) e)
  answers IntegerSequencer fields input value time m f = steps IntegerSequencer fields input value _ f (λ l e. integer_steps fields l f e)
  answers BooleanFilter fields input value time m f = filters fields input value f
  answers BooleanToggle fields input value time m f = toggles fields input value f
  answers BooleanTrigger fields input value time m f = triggers fields input value f
  answers IntegerTrigger fields input value time m f = integer_triggers fields input value f
  answers TimeTrigger fields input value time m f = time_triggers fields input value time m f
  answers t fields input value time m f = record { in_fields = f; in_replies = refl }

  pub all_reactions_fit : (t : NodeType) (fields : Fields) (input : ℕ) (value : Value) (time : ℤ) → fields_fit t ds fields ≡ true → event_fits t ds input value ≡ true → is_moment time ≡ true → Fit t ds (reaction t fields input value time)
  unfolding reaction
  all_reactions_fit t fields input value time f v m = sensor (is_time_sensor t) refl
    where
      kept : is_time_sensor t ≡ false → (b : Bool) → is_kept t input value ≡ b → Fit t ds (if b then keeps fields input value else answer t fields input value time)
      kept s true k = keeps_fit t fields input value f v s k
      kept s false k = answers t fields input value time m f

      sensor : (b : Bool) → is_time_sensor t ≡ b → Fit t ds (if b then nothing fields else (if is_kept t input value then keeps fields input value else answer t fields input value time))
      sensor true s = record { in_fields = f; in_replies = refl }
      sensor false s = kept s (is_kept t input value) refl
