-- What the nodes of a world that fits keep is sound, and holds no nodes.
use Rattle.std.proofs.Common.{◌≡◌, ◌==◌, ℕ, zero, suc, ◌+◌, ◌-◌, ◌^◌, ◌<◌, ℤ, pos, negsuc, int_le, nat_lt, Bool, true, ◌&&◌, List, [], ◌∷◌, ◌++◌, length, Option, Some, slice_get, refl, subst, arith, ltb-true, eqb-true}
use Rattle.std.specs.Int.{w32}
use Rattle.std.specs.List.{flat_map, list_all}
use Rattle.std.specs.Option.{option_and_then}
use Rattle.std.specs.Str.{is_utf8}
use Rattle.std.proofs.lemmas.Int.{ints}
use Rattle.byte_codec.specs.Codec.{Codec, all_fit, fits_signed, signed, string}
use Rattle.byte_codec.proofs.Laws.{both, and_true}
use Rattle.x3d_values.specs.declared.field_type.FieldType.{FieldType}
use Rattle.x3d_values.specs.declared.field_type.FieldType.TheVariants as types
use Rattle.x3d_values.specs.declared.fields.Fields.{Fields}
use Rattle.x3d_values.specs.declared.node_type.NodeType.{NodeType}
use Rattle.x3d_values.specs.declared.value.Value.{Value}
use Rattle.x3d_values.specs.declared.value.Value.TheVariants as value
use Rattle.x3d_values.specs.declared.vector.Color.{Color}
use Rattle.x3d_values.specs.declared.vector.Vec2.{Vec2}
use Rattle.x3d_values.specs.declared.vector.Vec3.{Vec3}
use Rattle.x3d_values.specs.Kept.{field_value}
use Rattle.x3d_values.specs.Tables.{FieldRowView, rows}
use Rattle.snapshot_codec.specs.declared.kept.KeptField.{KeptField}
use Rattle.snapshot_codec.specs.declared.kept.KeptField.TheVariants.{Absent, Interval, Typed}
use Rattle.snapshot_codec.specs.Fields.{is_positive, kept_field, kept_fits}
use Rattle.snapshot_codec.specs.Values.{color, list_of, number, text, time, value_fits, vector2, vector3}
use Rattle.sensor_plane.specs.declared.pointing.PointingState.{PointingState}
use Rattle.sensor_plane.specs.Pointing.{pointing_fits}
use Rattle.scene_core.specs.Shape.{Shape}
use Rattle.scene_text.specs.Raw.{color_run, pair_run, vector_run}
use Rattle.laws_worlds.specs.Ranges.{fields_fit, position_fits, values_fit}
use Rattle.laws_worlds.specs.Fits.{node_fits, nodes_fit, time_fits}
use Rattle.laws_written.specs.Values.{is_int32, is_number, is_time}
use Rattle.laws_written.specs.Writable.{AreKeepable, IsKeepable}
use Rattle.laws_written.specs.Kept.{FittingAreKeepable}

-- ---- numbers

integer_sound : (n : ℤ) → fits_signed w32 n ≡ true → is_int32 n ≡ true
integer_sound (pos n) h =
    let few : n < 2 ^ 31 = ltb-true n (2 ^ 31) h in
    let low : int_le (negsuc (2 ^ 31 - 1)) (pos n) ≡ true = grind (arith, ints) in
    let high : int_le (pos n) (pos (2 ^ 31 - 1)) ≡ true = grind (arith, ints) in
    and_true _ _ low high
integer_sound (negsuc n) h =
    let few : n < 2 ^ 31 = ltb-true n (2 ^ 31) h in
    let low : int_le (negsuc (2 ^ 31 - 1)) (negsuc n) ≡ true = grind (arith, ints) in
    let high : int_le (negsuc n) (pos (2 ^ 31 - 1)) ≡ true = grind (arith, ints) in
    and_true _ _ low high

-- ---- lists

items_fit : {A : Type 0} (c : Codec A) (xs : List A) → (list_of c).fits xs ≡ true → all_fit c xs ≡ true
items_fit c xs h = (both (nat_lt (length xs) (2 ^ 32)) (all_fit c xs) h).1

all_sound : {A : Type 0} (c : Codec A) (p : A → Bool) → ((x : A) → c.fits x ≡ true → p x ≡ true) → (xs : List A)
    → all_fit c xs ≡ true → list_all p xs ≡ true
all_sound c p k [] h = refl
all_sound c p k (x ∷ xs) h =
    let b = both (c.fits x) (all_fit c xs) h in and_true _ _ (k x b.0) (all_sound c p k xs b.1)

text_sound : (t : List ℕ) → text.fits t ≡ true → is_utf8 t ≡ true
unfolding text
text_sound t h = (both (is_utf8 t) (string.fits t) h).0

pairs_sound : (vs : List Vec2) → all_fit vector2 vs ≡ true → list_all is_number (flat_map pair_run vs) ≡ true
unfolding vector2
pairs_sound [] h = refl
pairs_sound (v ∷ vs) h =
    let b = both (is_number v.x && is_number v.y) (all_fit vector2 vs) h in
    let n = both (is_number v.x) (is_number v.y) b.0 in
    and_true _ _ n.0 (and_true _ _ n.1 (pairs_sound vs b.1))

vectors_sound : (vs : List Vec3) → all_fit vector3 vs ≡ true → list_all is_number (flat_map vector_run vs) ≡ true
unfolding vector3
vectors_sound [] h = refl
vectors_sound (v ∷ vs) h =
    let b = both (is_number v.x && (is_number v.y && is_number v.z)) (all_fit vector3 vs) h in
    let n = both (is_number v.x) (is_number v.y && is_number v.z) b.0 in
    let m = both (is_number v.y) (is_number v.z) n.1 in
    and_true _ _ n.0 (and_true _ _ m.0 (and_true _ _ m.1 (vectors_sound vs b.1)))

colors_sound : (cs : List Color) → all_fit color cs ≡ true → list_all is_number (flat_map color_run cs) ≡ true
unfolding color
colors_sound [] h = refl
colors_sound (c ∷ cs) h =
    let b = both (is_number c.red && (is_number c.green && is_number c.blue)) (all_fit color cs) h in
    let n = both (is_number c.red) (is_number c.green && is_number c.blue) b.0 in
    let m = both (is_number c.green) (is_number c.blue) n.1 in
    and_true _ _ n.0 (and_true _ _ m.0 (and_true _ _ m.1 (colors_sound cs b.1)))

-- a vector alone is a list of one
one_pair : (v : Vec2) → vector2.fits v ≡ true → list_all is_number (pair_run v) ≡ true
one_pair v h = pairs_sound (v ∷ []) (and_true _ _ h refl)

one_vector : (v : Vec3) → vector3.fits v ≡ true → list_all is_number (vector_run v) ≡ true
one_vector v h = vectors_sound (v ∷ []) (and_true _ _ h refl)

one_color : (c : Color) → color.fits c ≡ true → list_all is_number (color_run c) ≡ true
one_color c h = colors_sound (c ∷ []) (and_true _ _ h refl)

-- ---- values

value_keepable : (t : FieldType) (v : Value) → value_fits t v ≡ true → IsKeepable v
unfolding value_fits
value_keepable types.SFBool (value.SFBool x) h = (refl, refl)
value_keepable types.SFBool _ h = absurd cc
value_keepable types.SFInt32 (value.SFInt32 x) h = (integer_sound x h, refl)
value_keepable types.SFInt32 _ h = absurd cc
value_keepable types.SFFloat (value.SFFloat x) h = (h, refl)
value_keepable types.SFFloat _ h = absurd cc
value_keepable types.SFTime (value.SFTime x) h = (h, refl)
value_keepable types.SFTime _ h = absurd cc
value_keepable types.SFString (value.SFString x) h = (text_sound x h, refl)
value_keepable types.SFString _ h = absurd cc
value_keepable types.SFVec2f (value.SFVec2f x) h = (one_pair x h, refl)
value_keepable types.SFVec2f _ h = absurd cc
value_keepable types.SFVec3f (value.SFVec3f x) h = (one_vector x h, refl)
value_keepable types.SFVec3f _ h = absurd cc
value_keepable types.SFColor (value.SFColor x) h = (one_color x h, refl)
value_keepable types.SFColor _ h = absurd cc
value_keepable types.MFBool (value.MFBool x) h = (refl, refl)
value_keepable types.MFBool _ h = absurd cc
value_keepable types.MFInt32 (value.MFInt32 x) h = (all_sound (signed w32) is_int32 integer_sound x (items_fit (signed w32) x h), refl)
value_keepable types.MFInt32 _ h = absurd cc
value_keepable types.MFFloat (value.MFFloat x) h = (all_sound number is_number (λ z f. f) x (items_fit number x h), refl)
value_keepable types.MFFloat _ h = absurd cc
value_keepable types.MFTime (value.MFTime x) h = (all_sound time is_time (λ z f. f) x (items_fit time x h), refl)
value_keepable types.MFTime _ h = absurd cc
value_keepable types.MFString (value.MFString x) h = (all_sound text is_utf8 text_sound x (items_fit text x h), refl)
value_keepable types.MFString _ h = absurd cc
value_keepable types.MFVec2f (value.MFVec2f x) h = (pairs_sound x (items_fit vector2 x h), refl)
value_keepable types.MFVec2f _ h = absurd cc
value_keepable types.MFVec3f (value.MFVec3f x) h = (vectors_sound x (items_fit vector3 x h), refl)
value_keepable types.MFVec3f _ h = absurd cc
value_keepable types.MFColor (value.MFColor x) h = (colors_sound x (items_fit color x h), refl)
value_keepable types.MFColor _ h = absurd cc
value_keepable types.SFNode _ h = absurd cc
value_keepable types.MFNode _ h = absurd cc
value_keepable types.SFRotation _ h = absurd cc

-- ---- fields

field_keepable : (k : KeptField) (v : Value) → kept_fits k (Some v) ≡ true → IsKeepable v
unfolding kept_fits
field_keepable Absent v h = absurd cc
field_keepable Interval v h = value_keepable types.SFTime v (both (value_fits types.SFTime v) (is_positive v) h).0
field_keepable (Typed t) v h = value_keepable t v h

values_keepable : (t : NodeType) (n : ℕ) (es : List FieldRowView) (vs : List (Option Value)) (number : ℕ) (v : Value)
    → values_fit t n es vs ≡ true → option_and_then (λ o. o) (slice_get vs number) ≡ Some v → IsKeepable v
values_keepable t n [] [] number v f e = absurd cc
values_keepable t n [] (o ∷ vs) number v f e = absurd cc
values_keepable t n (row ∷ es) [] number v f e = absurd cc
values_keepable t n (row ∷ es) (o ∷ vs) zero v f e =
    let b = both (kept_fits (kept_field t n row.access row.field_type) o) (values_fit t (n + 1) es vs) f in
    field_keepable (kept_field t n row.access row.field_type) v
    (subst (λ (x : Option Value). kept_fits (kept_field t n row.access row.field_type) x ≡ true) e b.0)
values_keepable t n (row ∷ es) (o ∷ vs) (suc number) v f e =
    let b = both (kept_fits (kept_field t n row.access row.field_type) o) (values_fit t (n + 1) es vs) f in
    values_keepable t (n + 1) es vs number v b.1 e

-- ---- nodes

node_keepable : (s : Shape) (fields : Fields) (cycle : Option ℕ) (state : PointingState) (number : ℕ) (v : Value)
    → node_fits s fields cycle state ≡ true → field_value fields number ≡ Some v → IsKeepable v
node_keepable s fields cycle state number v f e =
    let b = both (fields_fit s.node_type s.declared fields) (time_fits s.node_type cycle && pointing_fits s.node_type state) f in
    let c = both (values_fit s.node_type 0 (rows s.node_type ++ s.declared) fields.values) (position_fits s.node_type fields.position) b.0 in
    values_keepable s.node_type 0 (rows s.node_type ++ s.declared) fields.values number v c.0 e

abbrev some : {A : Type 0} → A → Option A
some x = Some x

some_is : {A : Type 0} (x y : A) → some x ≡ some y → x ≡ y
some_is x y e = cc

nodes_keepable : (shapes : List Shape) (fs : List Fields) (cs : List (Option ℕ)) (us : List PointingState) → nodes_fit shapes fs cs us ≡ true → AreKeepable fs
nodes_keepable shapes [] cs us f n number fields v at e = absurd cc
nodes_keepable [] (x ∷ fs) cs us f n number fields v at e =
    let none = eqb-true (length (x ∷ fs)) 0 (both (length (x ∷ fs) == 0) ((length cs == 0) && (length us == 0)) f).0 in
    absurd (omega (arith, none))
nodes_keepable (s ∷ shapes) (x ∷ fs) [] us f n number fields v at e = absurd cc
nodes_keepable (s ∷ shapes) (x ∷ fs) (c ∷ cs) [] f n number fields v at e = absurd cc
nodes_keepable (s ∷ shapes) (x ∷ fs) (c ∷ cs) (u ∷ us) f zero number fields v at e =
    let b = both (node_fits s x c u) (nodes_fit shapes fs cs us) f in
    node_keepable s fields c u number v (subst (λ (y : Fields). node_fits s y c u ≡ true) (some_is x fields at) b.0) e
nodes_keepable (s ∷ shapes) (x ∷ fs) (c ∷ cs) (u ∷ us) f (suc n) number fields v at e =
    let b = both (node_fits s x c u) (nodes_fit shapes fs cs us) f in
    nodes_keepable shapes fs cs us b.1 n number fields v at e

pub fitting_are_keepable : FittingAreKeepable
fitting_are_keepable shapes w fits = nodes_keepable shapes w.fields w.sensors w.pointing fits.nodes
