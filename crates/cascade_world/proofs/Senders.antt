-- Nodes react by their outputs alone.
use Rattle.std.proofs.Common.{◌≡◌, ℕ, ℤ, Bool, true, false, ◌&&◌, not, List, [], ◌∷◌, refl, Option, Some, None}
use Rattle.std.specs.Prelude.{◌==◌, if◌then◌else◌}
use Rattle.std.specs.Option.{option_and_then, option_map_or}
use Rattle.x3d_values.specs.declared.fields.Fields.{Fields}
use Rattle.x3d_values.specs.declared.field_type.Access.{Access}
use Rattle.x3d_values.specs.declared.field_type.Access.TheVariants.{InputOnly, OutputOnly, InputOutput, InitializeOnly}
use Rattle.x3d_values.specs.declared.node_type.NodeType.{NodeType}
use Rattle.x3d_values.specs.declared.node_type.NodeType.TheVariants.{ScalarInterpolator, PositionInterpolator, PositionInterpolator2D, CoordinateInterpolator, BooleanSequencer, IntegerSequencer, BooleanFilter, BooleanToggle, BooleanTrigger, IntegerTrigger, TimeTrigger}
use Rattle.x3d_values.specs.declared.table.FieldRow.{FieldRow}
use Rattle.x3d_values.specs.declared.value.Value.{Value}
use Rattle.x3d_values.specs.declared.value.Value.TheVariants.{SFBool, SFInt32, SFTime}
use Rattle.x3d_values.specs.Tables.{FieldRowView}
use Rattle.x3d_values.specs.Values.{type_of}
use Rattle.react_core.specs.declared.sequence.Keyed.{Keyed}
use Rattle.react_core.specs.Sequence.{step_after}
use Rattle.react_core.specs.Stored.{truth_of, integer_of, time_of}
use Rattle.react_core.specs.Access.{is_kept, is_exposed, is_output, is_sender, leave_by_outputs, row_at, are_same, names_nodes}
use Rattle.react_core.specs.Reaction.{Reaction, reaction, reply, sends, stored, steps_to, interpolator_value, answer, at_input, with_some, nothing, keeps, filter, toggle, boolean_trigger, integer_trigger, time_trigger, interpolator, sequencer, is_time_sensor}

-- all that is sent leaves by outputs of a node of this type
abbrev pub Leaves : NodeType → Reaction → Type 0
Leaves kind r = leave_by_outputs kind r.replies ≡ true

leaves-if : (kind : NodeType) (b : Bool) (r s : Reaction) → Leaves kind r → Leaves kind s → Leaves kind (if b then r else s)
leaves-if kind true r s p q = p
leaves-if kind false r s p q = q

leaves-at : (kind : NodeType) (fields : Fields) (input wanted : ℕ) (r : Reaction) → Leaves kind r → Leaves kind (at_input fields input wanted r)
leaves-at kind fields input wanted r p = leaves-if kind (input == wanted) r (nothing fields) p refl

leaves-some : {X : Type 0} (kind : NodeType) (fields : Fields) (o : Option X) (does : X → Reaction) → ((x : X) → Leaves kind (does x)) → Leaves kind (with_some fields o does)
leaves-some kind fields None does p = refl
leaves-some kind fields (Some x) does p = p x

exposed-sends : (access : Access) (b : Bool) → (is_exposed access && b) ≡ true → is_sender access ≡ true
exposed-sends InputOutput b h = refl
exposed-sends InputOnly b h = cc
exposed-sends OutputOnly b h = refl
exposed-sends InitializeOnly b h = cc

-- a field that an event sets is one that the node sends by
pub kept-sends : (value : Value) (row : Option FieldRowView) →
    option_map_or (λ (row : FieldRowView). is_exposed row.access && (are_same row.field_type (type_of value) && not (names_nodes value))) row false ≡ true →
    option_map_or (λ (row : FieldRowView). is_sender row.access) row false ≡ true
kept-sends value None h = h
kept-sends value (Some row) h = exposed-sends row.access (are_same row.field_type (type_of value) && not (names_nodes value)) h

kept-is_output : (value : Value) (row : Option FieldRow) →
    option_map_or (λ (row : FieldRow). is_exposed row.access && (are_same row.field_type (type_of value) && not (names_nodes value))) row false ≡ true →
    option_map_or (λ (row : FieldRow). is_sender row.access) row false ≡ true
kept-is_output value None h = h
kept-is_output value (Some row) h = exposed-sends row.access (are_same row.field_type (type_of value) && not (names_nodes value)) h

leaves-one : (kind : NodeType) (input : ℕ) → is_output kind input ≡ true → (is_output kind input && true) ≡ true
leaves-one kind input h = rw h refl

leaves-keeps : (kind : NodeType) (fields : Fields) (input : ℕ) (value : Value) → is_kept kind input value ≡ true → Leaves kind (keeps fields input value)
leaves-keeps kind fields input value h = leaves-one kind input (kept-is_output value (row_at kind input) h)

leaves-interpolator : (kind : NodeType) (fields : Fields) (input : ℕ) (value : Value) → is_output kind 4 ≡ true → Leaves kind (interpolator kind fields input value)
leaves-interpolator kind fields input value h =
    let does : Value → Reaction = λ changed. sends fields (reply 4 changed ∷ []) in
    let o : Option Value = interpolator_value kind fields value in
    leaves-at kind fields input 3 (with_some fields o does) (leaves-some kind fields o does (λ changed. leaves-one kind 4 h))

leaves-sequencer : (kind : NodeType) (fields : Fields) (input : ℕ) (value : Value) (values : Option (List Value)) → is_output kind 6 ≡ true → Leaves kind (sequencer fields input value values)
leaves-sequencer kind fields input value values h =
    let o : Option Keyed = option_and_then (step_after fields input value) values in
    leaves-some kind fields o (steps_to fields) (λ step. leaves-one kind 6 h)

leaves-filter : (fields : Fields) (input : ℕ) (value : Value) → Leaves BooleanFilter (filter fields input value)
leaves-filter fields input value =
    let does : Bool → Reaction = λ truth. sends fields (reply (if truth then 2 else 3) (SFBool truth) ∷ reply 4 (SFBool (not truth)) ∷ []) in
    leaves-at BooleanFilter fields input 1 (with_some fields (truth_of value) does) (leaves-some BooleanFilter fields (truth_of value) does truth)
  where
    truth : (b : Bool) → (is_output BooleanFilter (if b then 2 else 3) && (is_output BooleanFilter 4 && true)) ≡ true
    truth true = refl
    truth false = refl

leaves-toggle : (fields : Fields) (input : ℕ) (value : Value) → Leaves BooleanToggle (toggle fields input value)
leaves-toggle fields input value =
    let flips : Bool → Reaction = λ now. keeps fields 2 (SFBool (not now)) in
    let flipped : Reaction = with_some fields (stored truth_of fields 2) flips in
    let does : Bool → Reaction = λ truth. if truth then flipped else nothing fields in
    let leaves : Leaves BooleanToggle flipped = leaves-some BooleanToggle fields (stored truth_of fields 2) flips (λ now. refl) in
    leaves-at BooleanToggle fields input 1 (with_some fields (truth_of value) does)
    (leaves-some BooleanToggle fields (truth_of value) does (λ truth. leaves-if BooleanToggle truth flipped (nothing fields) leaves refl))

leaves-boolean : (fields : Fields) (input : ℕ) (value : Value) → Leaves BooleanTrigger (boolean_trigger fields input value)
leaves-boolean fields input value =
    let does : ℤ → Reaction = λ time. sends fields (reply 2 (SFBool true) ∷ []) in
    leaves-at BooleanTrigger fields input 1 (with_some fields (time_of value) does) (leaves-some BooleanTrigger fields (time_of value) does (λ time. refl))

leaves-integer : (fields : Fields) (input : ℕ) (value : Value) → Leaves IntegerTrigger (integer_trigger fields input value)
leaves-integer fields input value =
    let triggers : ℤ → Reaction = λ key. sends fields (reply 3 (SFInt32 key) ∷ []) in
    let triggered : Reaction = with_some fields (stored integer_of fields 2) triggers in
    let does : Bool → Reaction = λ truth. if truth then triggered else nothing fields in
    let leaves : Leaves IntegerTrigger triggered = leaves-some IntegerTrigger fields (stored integer_of fields 2) triggers (λ key. refl) in
    leaves-at IntegerTrigger fields input 1 (with_some fields (truth_of value) does)
    (leaves-some IntegerTrigger fields (truth_of value) does (λ truth. leaves-if IntegerTrigger truth triggered (nothing fields) leaves refl))

leaves-time : (fields : Fields) (input : ℕ) (value : Value) (time : ℤ) → Leaves TimeTrigger (time_trigger fields input value time)
leaves-time fields input value time =
    let does : Bool → Reaction = λ truth. sends fields (reply 2 (SFTime time) ∷ []) in
    leaves-at TimeTrigger fields input 1 (with_some fields (truth_of value) does) (leaves-some TimeTrigger fields (truth_of value) does (λ truth. refl))

leaves-answer : (kind : NodeType) (fields : Fields) (input : ℕ) (value : Value) (time : ℤ) → Leaves kind (answer kind fields input value time)
leaves-answer ScalarInterpolator fields input value time = leaves-interpolator ScalarInterpolator fields input value refl
leaves-answer PositionInterpolator fields input value time = leaves-interpolator PositionInterpolator fields input value refl
leaves-answer PositionInterpolator2D fields input value time = leaves-interpolator PositionInterpolator2D fields input value refl
leaves-answer CoordinateInterpolator fields input value time = leaves-interpolator CoordinateInterpolator fields input value refl
leaves-answer BooleanSequencer fields input value time = leaves-sequencer BooleanSequencer fields input value _ refl
leaves-answer IntegerSequencer fields input value time = leaves-sequencer IntegerSequencer fields input value _ refl
leaves-answer BooleanFilter fields input value time = leaves-filter fields input value
leaves-answer BooleanToggle fields input value time = leaves-toggle fields input value
leaves-answer BooleanTrigger fields input value time = leaves-boolean fields input value
leaves-answer IntegerTrigger fields input value time = leaves-integer fields input value
leaves-answer TimeTrigger fields input value time = leaves-time fields input value time
leaves-answer _ fields input value time = refl

-- all that a node sends at an event leaves by its outputs
pub reaction-leaves : (kind : NodeType) (fields : Fields) (input : ℕ) (value : Value) (time : ℤ) → Leaves kind (reaction kind fields input value time)
unfolding reaction
reaction-leaves kind fields input value time =
    leaves-if kind (is_time_sensor kind) (nothing fields) _ refl (kept (is_kept kind input value) refl)
  where
    kept : (b : Bool) → is_kept kind input value ≡ b → Leaves kind (if b then keeps fields input value else answer kind fields input value time)
    kept true h = leaves-keeps kind fields input value h
    kept false h = leaves-answer kind fields input value time
