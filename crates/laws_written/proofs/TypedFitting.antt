-- What the nodes of a world that fits keep is of their fields' types.
use Rattle.std.proofs.Common.{◌≡◌, ℕ, zero, suc, ◌+◌, Bool, true, false, ◌&&◌, if◌then◌else◌, List, [], ◌∷◌, ◌++◌, length, ◌==◌, Option, Some, slice_get, refl, sym, ap, subst, ◌∙◌, arith, eqb-true}
use Rattle.std.specs.Option.{option_and_then, option_map, option_map_or}
use Rattle.byte_codec.proofs.Laws.{both}
use Rattle.x3d_values.specs.declared.field_type.Access.{Access}
use Rattle.x3d_values.specs.declared.field_type.Access.TheVariants.{InputOnly, OutputOnly, InputOutput, InitializeOnly}
use Rattle.x3d_values.specs.declared.field_type.FieldType.{FieldType}
use Rattle.x3d_values.specs.declared.field_type.FieldType.TheVariants as types
use Rattle.x3d_values.specs.declared.fields.Fields.{Fields}
use Rattle.x3d_values.specs.declared.node_type.NodeType.{NodeType}
use Rattle.x3d_values.specs.declared.node_type.NodeType.TheVariants.{TimeSensor}
use Rattle.x3d_values.specs.declared.value.Value.{Value}
use Rattle.x3d_values.specs.declared.value.Value.TheVariants as value
use Rattle.x3d_values.specs.Access.{is_kept}
use Rattle.x3d_values.specs.Kept.{field_value}
use Rattle.x3d_values.specs.Tables.{FieldRowView, rows}
use Rattle.x3d_values.specs.Values.{type_of}
use Rattle.snapshot_codec.specs.declared.kept.KeptField.TheVariants.{Absent, Interval, Typed}
use Rattle.snapshot_codec.specs.Fields.{has_bytes, is_interval, is_positive, kept_field, kept_fits}
use Rattle.snapshot_codec.specs.Values.{value_fits}
use Rattle.sensor_plane.specs.declared.pointing.PointingState.{PointingState}
use Rattle.sensor_plane.specs.Pointing.{pointing_fits}
use Rattle.scene_core.specs.Scene.{SceneView, rows_at, shapes_of}
use Rattle.scene_core.specs.Shape.{Shape, rows_of}
use Rattle.cascade_world.specs.declared.world.WorldData.{WorldData}
use Rattle.laws_worlds.specs.Ranges.{fields_fit, position_fits, values_fit}
use Rattle.laws_worlds.specs.Fits.{WorldFits, node_fits, nodes_fit, time_fits}
use Rattle.laws_written.specs.Typed.{FittingAreOfType}

-- ---- values

value_typed : (t : FieldType) (v : Value) → value_fits t v ≡ true → type_of v ≡ t
unfolding value_fits
value_typed types.SFBool (value.SFBool x) h = refl
value_typed types.SFBool _ h = absurd cc
value_typed types.SFInt32 (value.SFInt32 x) h = refl
value_typed types.SFInt32 _ h = absurd cc
value_typed types.SFFloat (value.SFFloat x) h = refl
value_typed types.SFFloat _ h = absurd cc
value_typed types.SFTime (value.SFTime x) h = refl
value_typed types.SFTime _ h = absurd cc
value_typed types.SFString (value.SFString x) h = refl
value_typed types.SFString _ h = absurd cc
value_typed types.SFVec2f (value.SFVec2f x) h = refl
value_typed types.SFVec2f _ h = absurd cc
value_typed types.SFVec3f (value.SFVec3f x) h = refl
value_typed types.SFVec3f _ h = absurd cc
value_typed types.SFColor (value.SFColor x) h = refl
value_typed types.SFColor _ h = absurd cc
value_typed types.MFBool (value.MFBool x) h = refl
value_typed types.MFBool _ h = absurd cc
value_typed types.MFInt32 (value.MFInt32 x) h = refl
value_typed types.MFInt32 _ h = absurd cc
value_typed types.MFFloat (value.MFFloat x) h = refl
value_typed types.MFFloat _ h = absurd cc
value_typed types.MFTime (value.MFTime x) h = refl
value_typed types.MFTime _ h = absurd cc
value_typed types.MFString (value.MFString x) h = refl
value_typed types.MFString _ h = absurd cc
value_typed types.MFVec2f (value.MFVec2f x) h = refl
value_typed types.MFVec2f _ h = absurd cc
value_typed types.MFVec3f (value.MFVec3f x) h = refl
value_typed types.MFVec3f _ h = absurd cc
value_typed types.MFColor (value.MFColor x) h = refl
value_typed types.MFColor _ h = absurd cc
value_typed types.SFNode _ h = absurd cc
value_typed types.MFNode _ h = absurd cc
value_typed types.SFRotation _ h = absurd cc

-- ---- fields

abbrev some : {A : Type 0} → A → Option A
some x = Some x

some_is : {A : Type 0} (x y : A) → some x ≡ some y → x ≡ y
some_is x y e = cc

-- the field of an interval is one of times
interval_is : (t : NodeType) (declared : List FieldRowView) (number : ℕ) (e : FieldRowView) → slice_get (rows t ++ declared) number ≡ Some e → is_interval t number ≡ true
    → e.field_type ≡ types.SFTime
interval_is TimeSensor declared number e at h =
    let here : slice_get (rows TimeSensor ++ declared) 1 ≡ Some e = subst (λ (n : ℕ). slice_get (rows TimeSensor ++ declared) n ≡ Some e) (eqb-true number 1 h) at in
    sym (some_is types.SFTime e.field_type (ap (λ (o : Option FieldRowView). option_map (λ (row : FieldRowView). row.field_type) o) here))
interval_is _ declared number e at h = absurd cc

-- what has bytes is kept, where it is an inputOutput field
bytes_kept : (t : FieldType) → has_bytes t ≡ true → is_kept InputOutput t ≡ true
bytes_kept types.SFNode h = absurd cc
bytes_kept types.MFNode h = absurd cc
bytes_kept types.SFRotation h = absurd cc
bytes_kept _ h = refl

field_held : (t : NodeType) (n : ℕ) (a : Access) (field_type : FieldType) (v : Value) → (is_interval t n ≡ true → field_type ≡ types.SFTime)
    → kept_fits (kept_field t n a field_type) (Some v) ≡ true → (type_of v ≡ field_type) × (is_kept a field_type ≡ true)
unfolding kept_fits
field_held t n InputOutput field_type v k h = by_interval (is_interval t n) (has_bytes field_type) refl refl h where
  by_interval : (b c : Bool) → is_interval t n ≡ b → has_bytes field_type ≡ c
      → kept_fits (if b then Interval else (if c then Typed field_type else Absent)) (Some v) ≡ true → (type_of v ≡ field_type) × (is_kept InputOutput field_type ≡ true)
  by_interval true c e g f = (
    value_typed types.SFTime v (both (value_fits types.SFTime v) (is_positive v) f).0 ∙ sym (k e),
    subst (λ (x : FieldType). is_kept InputOutput x ≡ true) (sym (k e)) refl,
  )
  by_interval false true e g f = (value_typed field_type v f, bytes_kept field_type g)
  by_interval false false e g f = absurd cc
field_held t n InputOnly field_type v k h = absurd cc
field_held t n OutputOnly field_type v k h = absurd cc
field_held t n InitializeOnly field_type v k h = absurd cc

-- ---- the fields of a node

-- what its row says of the field of that number
abbrev Keeps : NodeType → ℕ → FieldRowView → Value → Type 0
Keeps t n e v = kept_fits (kept_field t n e.access e.field_type) (Some v) ≡ true

-- there is a row for a value that is kept, the first of the rows having number n
abbrev HasRow : NodeType → ℕ → List FieldRowView → ℕ → Value → Type 0
HasRow t n es number v = (e : FieldRowView) × (slice_get es number ≡ Some e) × Keeps t (n + number) e v

same_place : (n : ℕ) → n ≡ n + zero
same_place n = omega arith

next_place : (n k : ℕ) → n + 1 + k ≡ n + suc k
next_place n k = omega arith

from_zero : (n : ℕ) → zero + n ≡ n
from_zero n = omega arith

has_row : (t : NodeType) (n : ℕ) (es : List FieldRowView) (vs : List (Option Value)) (number : ℕ) (v : Value)
    → values_fit t n es vs ≡ true → option_and_then (λ o. o) (slice_get vs number) ≡ Some v → HasRow t n es number v
has_row t n es [] number v f held = absurd cc
has_row t n [] (o ∷ vs) number v f held = absurd cc
has_row t n (row ∷ es) (o ∷ vs) zero v f held =
    let b = both (kept_fits (kept_field t n row.access row.field_type) o) (values_fit t (n + 1) es vs) f in
    let here : Keeps t n row v = subst (λ (x : Option Value). kept_fits (kept_field t n row.access row.field_type) x ≡ true) held b.0 in
    (row, refl, subst (λ (m : ℕ). Keeps t m row v) (same_place n) here)
has_row t n (row ∷ es) (o ∷ vs) (suc number) v f held =
    let b = both (kept_fits (kept_field t n row.access row.field_type) o) (values_fit t (n + 1) es vs) f in
    let r = has_row t (n + 1) es vs number v b.1 held in
    (r.0, r.1, subst (λ (m : ℕ). Keeps t m r.0 v) (next_place n number) r.2)

-- the value is one of a field of these that is kept
abbrev pub IsHeld : List FieldRowView → ℕ → Value → Type 0
IsHeld es number v = (e : FieldRowView) × (slice_get es number ≡ Some e) × (type_of v ≡ e.field_type) × (is_kept e.access e.field_type ≡ true)

node_held : (s : Shape) (fields : Fields) (cycle : Option ℕ) (state : PointingState) (number : ℕ) (v : Value)
    → node_fits s fields cycle state ≡ true → field_value fields number ≡ Some v → IsHeld (rows_of s) number v
node_held s fields cycle state number v f held =
    let b = both (fields_fit s.node_type s.declared fields) (time_fits s.node_type cycle && pointing_fits s.node_type state) f in
    let c = both (values_fit s.node_type 0 (rows s.node_type ++ s.declared) fields.values) (position_fits s.node_type fields.position) b.0 in
    let r : HasRow s.node_type 0 (rows s.node_type ++ s.declared) number v = has_row s.node_type 0 (rows s.node_type ++ s.declared) fields.values number v c.0 held in
    let h = field_held s.node_type number r.0.access r.0.field_type v (interval_is s.node_type s.declared number r.0 r.1)
    (subst (λ (m : ℕ). Keeps s.node_type m r.0 v) (from_zero number) r.2) in
    (r.0, r.1, h.0, h.1)

-- ---- nodes

nodes_held : (shapes : List Shape) (fs : List Fields) (cs : List (Option ℕ)) (us : List PointingState) → nodes_fit shapes fs cs us ≡ true
    → (n number : ℕ) (fields : Fields) (v : Value) → slice_get fs n ≡ Some fields → field_value fields number ≡ Some v
    → IsHeld (option_map_or rows_of (slice_get shapes n) []) number v
nodes_held shapes [] cs us f n number fields v at held = absurd cc
nodes_held [] (x ∷ fs) cs us f n number fields v at held =
    let none = eqb-true (length (x ∷ fs)) 0 (both (length (x ∷ fs) == 0) ((length cs == 0) && (length us == 0)) f).0 in
    absurd (omega (arith, none))
nodes_held (s ∷ shapes) (x ∷ fs) [] us f n number fields v at held = absurd cc
nodes_held (s ∷ shapes) (x ∷ fs) (c ∷ cs) [] f n number fields v at held = absurd cc
nodes_held (s ∷ shapes) (x ∷ fs) (c ∷ cs) (u ∷ us) f zero number fields v at held =
    let b = both (node_fits s x c u) (nodes_fit shapes fs cs us) f in
    node_held s fields c u number v (subst (λ (y : Fields). node_fits s y c u ≡ true) (some_is x fields at) b.0) held
nodes_held (s ∷ shapes) (x ∷ fs) (c ∷ cs) (u ∷ us) f (suc n) number fields v at held =
    let b = both (node_fits s x c u) (nodes_fit shapes fs cs us) f in
    nodes_held shapes fs cs us b.1 n number fields v at held

pub fitting_held : (scene : SceneView) (w : WorldData) → WorldFits (shapes_of scene) w → (n number : ℕ) (fields : Fields) (v : Value)
    → slice_get w.fields n ≡ Some fields → field_value fields number ≡ Some v → IsHeld (rows_at scene n) number v
fitting_held scene w fits = nodes_held (shapes_of scene) w.fields w.sensors w.pointing fits.nodes

pub fitting_typed : FittingAreOfType
fitting_typed scene w fits n number e fields v at here held =
    let r : IsHeld (rows_at scene n) number v = fitting_held scene w fits n number fields v here held in
    r.2 ∙ ap (λ (x : FieldRowView). x.field_type) (some_is r.0 e (sym r.1 ∙ at))
