-- A typed value is in the range of its type.
use Rattle.std.proofs.Common.{◌≡◌, ℕ, zero, suc, ◌-◌, ◌^◌, ◌<◌, ◌%◌, ◌==◌, ℤ, pos, negsuc, int_le, unsigned_abs, nat_le, Bool, true, false, ◌&&◌, if◌then◌else◌, List, [], ◌∷◌, length, map, Result, Ok, Err, refl, subst, arith, lt-ltb}
use Rattle.std.specs.Int.{w32}
use Rattle.std.specs.List.{list_all}
use Rattle.std.proofs.lemmas.Int.{ints}
use Rattle.byte_codec.specs.Codec.{Codec, all_fit, fits_signed, signed, truth}
use Rattle.byte_codec.proofs.Laws.{both, and_true}
use Rattle.x3d_values.specs.Ranges.{is_time}
use Rattle.x3d_values.specs.declared.field_type.FieldType.{FieldType}
use Rattle.x3d_values.specs.declared.field_type.FieldType.TheVariants as types
use Rattle.x3d_values.specs.declared.value.Value.{Value}
use Rattle.x3d_values.specs.declared.value.Value.TheVariants as value
use Rattle.classic_tree.specs.declared.tree.RawValue.{RawValue}
use Rattle.classic_tree.specs.declared.tree.RawValue.TheVariants as raw
use Rattle.snapshot_codec.specs.Fields.{has_bytes}
use Rattle.snapshot_codec.specs.Values.{number, time, text, vector2, vector3, color as color_codec, value_fits}
use Rattle.scene_values.specs.declared.fault.ValueFault.{ValueFault}
use Rattle.scene_values.specs.declared.fault.ValueFault.TheVariants.{ValueRange, WrongType}
use Rattle.scene_values.specs.Grouping.{component, pair, vector, color, pairs, vectors, colors}
use Rattle.scene_values.specs.Quantities.{is_integer, whole}
use Rattle.scene_values.specs.Typing.{made, truth as truth_in, truths, string, strings, typed}
use Rattle.laws_worlds.specs.Openings.{is_counted, is_text, is_countable}
use Rattle.laws_worlds.proofs.Routes.{ok_is}

pub made_is : {X Y : Type 0} (f : X → Y) (r : Result X ValueFault) (y : Y) → made f r ≡ Ok y → (x : X) × (r ≡ Ok x) × (f x ≡ y)
made_is f (Err e) y h = absurd cc
made_is f (Ok x) y h = (x, refl, ok_is (f x) y h)

-- ---- numerals

abbrev is_number : ℤ → Bool
is_number z = nat_le (unsigned_abs z) (10 ^ 15)

abbrev if_all : Bool → (ℤ → Bool) → List ℤ → Result (List ℤ) ValueFault
if_all right p ns = if right then (if list_all p ns then Ok ns else Err ValueRange) else Err WrongType

all_right : (p : ℤ → Bool) (ns ms : List ℤ) (right all : Bool) → list_all p ns ≡ all → (if right then (if all then Ok ns else Err ValueRange) else Err WrongType) ≡ Ok ms → list_all p ms ≡ true
all_right p ns ms true true e h = subst (λ (l : List ℤ). list_all p l ≡ true) (ok_is ns ms h) e
all_right p ns ms true false e h = absurd cc
all_right p ns ms false all e h = absurd cc

part_fits : (p : ℤ → Bool) (ms : List ℤ) (n : ℕ) → p (pos 0) ≡ true → list_all p ms ≡ true → p (component ms n) ≡ true
part_fits p [] n z a = z
part_fits p (m ∷ ms) zero z a = (both (p m) (list_all p ms) a).0
part_fits p (m ∷ ms) (suc n) z a = part_fits p ms n z (both (p m) (list_all p ms) a).1

small : (z : ℤ) → int_le (negsuc (2 ^ 31 - 1)) z ≡ true → int_le z (pos (2 ^ 31 - 1)) ≡ true → fits_signed w32 z ≡ true
small (pos n) p q = let few : n < 2 ^ 31 = grind (arith, ints) in lt-ltb n (2 ^ 31) few
small (negsuc n) p q = let few : n < 2 ^ 31 = grind (arith, ints) in lt-ltb n (2 ^ 31) few

whole_fits : (z : ℤ) → is_integer z ≡ true → fits_signed w32 (whole z) ≡ true
whole_fits z h =
    let a = both (unsigned_abs z % 10 ^ 6 == 0) (int_le (negsuc (2 ^ 31 - 1)) (whole z) && int_le (whole z) (pos (2 ^ 31 - 1))) h in
    let b = both (int_le (negsuc (2 ^ 31 - 1)) (whole z)) (int_le (whole z) (pos (2 ^ 31 - 1))) a.1 in
    small (whole z) b.0 b.1

-- ---- items

all_from : {A : Type 0} (c : Codec A) (p : A → Bool) → ((x : A) → p x ≡ true → c.fits x ≡ true) → (xs : List A) → list_all p xs ≡ true → all_fit c xs ≡ true
all_from c p k [] a = refl
all_from c p k (x ∷ xs) a = let b = both (p x) (list_all p xs) a in and_true _ _ (k x b.0) (all_from c p k xs b.1)

wholes_fit : (xs : List ℤ) → list_all is_integer xs ≡ true → all_fit (signed w32) (map whole xs) ≡ true
wholes_fit [] a = refl
wholes_fit (x ∷ xs) a = let b = both (is_integer x) (list_all is_integer xs) a in and_true _ _ (whole_fits x b.0) (wholes_fit xs b.1)

truths_fit : (xs : List Bool) → all_fit truth xs ≡ true
truths_fit [] = refl
truths_fit (x ∷ xs) = truths_fit xs

abbrev all_numbers : List ℤ → Type 0
all_numbers xs = list_all is_number xs ≡ true

pairs_fit : (xs : List ℤ) → all_numbers xs → all_fit vector2 (pairs xs) ≡ true
unfolding vector2
pairs_fit [] a = refl
pairs_fit (x ∷ []) a = refl
pairs_fit (x ∷ (y ∷ xs)) a =
    let b = both (is_number x) (list_all is_number (y ∷ xs)) a in
    let d = both (is_number y) (list_all is_number xs) b.1 in
    and_true _ _ (and_true _ _ b.0 d.0) (pairs_fit xs d.1)

vectors_fit : (xs : List ℤ) → all_numbers xs → all_fit vector3 (vectors xs) ≡ true
unfolding vector3
vectors_fit [] a = refl
vectors_fit (x ∷ []) a = refl
vectors_fit (x ∷ (y ∷ [])) a = refl
vectors_fit (x ∷ (y ∷ (z ∷ xs))) a =
    let b = both (is_number x) (list_all is_number (y ∷ (z ∷ xs))) a in
    let d = both (is_number y) (list_all is_number (z ∷ xs)) b.1 in
    let e = both (is_number z) (list_all is_number xs) d.1 in
    and_true _ _ (and_true _ _ b.0 (and_true _ _ d.0 e.0)) (vectors_fit xs e.1)

colors_fit : (xs : List ℤ) → all_numbers xs → all_fit color_codec (colors xs) ≡ true
unfolding color_codec
colors_fit [] a = refl
colors_fit (x ∷ []) a = refl
colors_fit (x ∷ (y ∷ [])) a = refl
colors_fit (x ∷ (y ∷ (z ∷ xs))) a =
    let b = both (is_number x) (list_all is_number (y ∷ (z ∷ xs))) a in
    let d = both (is_number y) (list_all is_number (z ∷ xs)) b.1 in
    let e = both (is_number z) (list_all is_number xs) d.1 in
    and_true _ _ (and_true _ _ b.0 (and_true _ _ d.0 e.0)) (colors_fit xs e.1)

-- ---- values

abbrev pub InRange : FieldType → Value → Type 0
InRange t v = is_countable v ≡ true → (if has_bytes t then value_fits t v else true) ≡ true

-- what is made of numerals in range is in range
abbrev Makes : FieldType → (ℤ → Bool) → (List ℤ → Value) → Type 0
Makes t p f = (ns : List ℤ) → list_all p ns ≡ true → InRange t (f ns)

numerals_fit : (t : FieldType) (p : ℤ → Bool) (f : List ℤ → Value) → Makes t p f → (right : Bool) (ns : List ℤ) (v : Value) → made f (if_all right p ns) ≡ Ok v → InRange t v
numerals_fit t p f k right ns v h =
    let m = made_is f (if_all right p ns) v h in
    subst (InRange t) m.2 (k m.0 (all_right p ns m.0 right (list_all p ns) refl m.1))

none_fit : (t : FieldType) (f : List ℤ → Value) (v : Value) → InRange t (f []) → made f (Ok []) ≡ Ok v → InRange t v
none_fit t f v k h = subst (InRange t) (ok_is (f []) v h) k

make_sfint32 : Makes types.SFInt32 is_integer (λ x. value.SFInt32 (whole (component x 0)))
unfolding value_fits
make_sfint32 ns a c = whole_fits (component ns 0) (part_fits is_integer ns 0 refl a)

make_sffloat : Makes types.SFFloat is_number (λ x. value.SFFloat (component x 0))
unfolding value_fits
make_sffloat ns a c = part_fits is_number ns 0 refl a

make_sftime : Makes types.SFTime is_time (λ x. value.SFTime (component x 0))
unfolding value_fits
make_sftime ns a c = part_fits is_time ns 0 refl a

make_sfvec2f : Makes types.SFVec2f is_number (λ x. value.SFVec2f (pair x))
unfolding value_fits vector2
make_sfvec2f ns a c = and_true _ _ (part_fits is_number ns 0 refl a) (part_fits is_number ns 1 refl a)

make_sfvec3f : Makes types.SFVec3f is_number (λ x. value.SFVec3f (vector x))
unfolding value_fits vector3
make_sfvec3f ns a c = and_true _ _ (part_fits is_number ns 0 refl a) (and_true _ _ (part_fits is_number ns 1 refl a) (part_fits is_number ns 2 refl a))

make_sfcolor : Makes types.SFColor is_number (λ x. value.SFColor (color x))
unfolding value_fits color_codec
make_sfcolor ns a c = and_true _ _ (part_fits is_number ns 0 refl a) (and_true _ _ (part_fits is_number ns 1 refl a) (part_fits is_number ns 2 refl a))

make_mfint32 : Makes types.MFInt32 is_integer (λ x. value.MFInt32 (map whole x))
unfolding value_fits
make_mfint32 ns a c = and_true _ _ c (wholes_fit ns a)

make_mffloat : Makes types.MFFloat is_number (λ x. value.MFFloat x)
unfolding value_fits
make_mffloat ns a c = and_true _ _ c (all_from number is_number (λ x k. k) ns a)

make_mftime : Makes types.MFTime is_time (λ x. value.MFTime x)
unfolding value_fits
make_mftime ns a c = and_true _ _ c (all_from time is_time (λ x k. k) ns a)

make_mfvec2f : Makes types.MFVec2f is_number (λ x. value.MFVec2f (pairs x))
unfolding value_fits
make_mfvec2f ns a c = and_true _ _ c (pairs_fit ns a)

make_mfvec3f : Makes types.MFVec3f is_number (λ x. value.MFVec3f (vectors x))
unfolding value_fits
make_mfvec3f ns a c = and_true _ _ c (vectors_fit ns a)

make_mfcolor : Makes types.MFColor is_number (λ x. value.MFColor (colors x))
unfolding value_fits
make_mfcolor ns a c = and_true _ _ c (colors_fit ns a)

pub typed_fits : (t : FieldType) (r : RawValue ℕ) (numbers : List ℕ) (v : Value) → typed t r numbers ≡ Ok v → InRange t v
unfolding value_fits text
typed_fits types.SFBool r ns v h = let m = made_is value.SFBool (truth_in r) v h in subst (InRange types.SFBool) m.2 (λ c. refl)
typed_fits types.SFString r ns v h = let m = made_is value.SFString (string r) v h in subst (InRange types.SFString) m.2 (λ c. c)
typed_fits types.MFBool r ns v h = let m = made_is value.MFBool (truths r) v h in subst (InRange types.MFBool) m.2 (λ c. and_true _ _ c (truths_fit m.0))
typed_fits types.MFString r ns v h =
    let m = made_is value.MFString (strings r) v h in
    subst (InRange types.MFString) m.2 (λ c. let b = both (is_counted m.0) (list_all is_text m.0) c in and_true _ _ b.0 (all_from text is_text (λ x k. k) m.0 b.1))
typed_fits types.SFNode r ns v h = λ c. refl
typed_fits types.MFNode r ns v h = λ c. refl
typed_fits types.SFRotation r ns v h = λ c. refl
typed_fits types.SFInt32 (raw.Numbers xs) ns v h = numerals_fit types.SFInt32 is_integer (λ x. value.SFInt32 (whole (component x 0))) make_sfint32 (length xs == 1) xs v h
typed_fits types.SFInt32 _ ns v h = absurd cc
typed_fits types.SFFloat (raw.Numbers xs) ns v h = numerals_fit types.SFFloat is_number (λ x. value.SFFloat (component x 0)) make_sffloat (length xs == 1) xs v h
typed_fits types.SFFloat _ ns v h = absurd cc
typed_fits types.SFTime (raw.Numbers xs) ns v h = numerals_fit types.SFTime is_time (λ x. value.SFTime (component x 0)) make_sftime (length xs == 1) xs v h
typed_fits types.SFTime _ ns v h = absurd cc
typed_fits types.SFVec2f (raw.Numbers xs) ns v h = numerals_fit types.SFVec2f is_number (λ x. value.SFVec2f (pair x)) make_sfvec2f (length xs == 2) xs v h
typed_fits types.SFVec2f _ ns v h = absurd cc
typed_fits types.SFVec3f (raw.Numbers xs) ns v h = numerals_fit types.SFVec3f is_number (λ x. value.SFVec3f (vector x)) make_sfvec3f (length xs == 3) xs v h
typed_fits types.SFVec3f _ ns v h = absurd cc
typed_fits types.SFColor (raw.Numbers xs) ns v h = numerals_fit types.SFColor is_number (λ x. value.SFColor (color x)) make_sfcolor (length xs == 3) xs v h
typed_fits types.SFColor _ ns v h = absurd cc
typed_fits types.MFInt32 (raw.Numbers xs) ns v h = numerals_fit types.MFInt32 is_integer (λ x. value.MFInt32 (map whole x)) make_mfint32 (length xs == 1) xs v h
typed_fits types.MFInt32 (raw.NumberList xs) ns v h = numerals_fit types.MFInt32 is_integer (λ x. value.MFInt32 (map whole x)) make_mfint32 (length xs % 1 == 0) xs v h
typed_fits types.MFInt32 raw.EmptyList ns v h = none_fit types.MFInt32 (λ x. value.MFInt32 (map whole x)) v (λ c. refl) h
typed_fits types.MFInt32 _ ns v h = absurd cc
typed_fits types.MFFloat (raw.Numbers xs) ns v h = numerals_fit types.MFFloat is_number (λ x. value.MFFloat x) make_mffloat (length xs == 1) xs v h
typed_fits types.MFFloat (raw.NumberList xs) ns v h = numerals_fit types.MFFloat is_number (λ x. value.MFFloat x) make_mffloat (length xs % 1 == 0) xs v h
typed_fits types.MFFloat raw.EmptyList ns v h = none_fit types.MFFloat (λ x. value.MFFloat x) v (λ c. refl) h
typed_fits types.MFFloat _ ns v h = absurd cc
typed_fits types.MFTime (raw.Numbers xs) ns v h = numerals_fit types.MFTime is_time (λ x. value.MFTime x) make_mftime (length xs == 1) xs v h
typed_fits types.MFTime (raw.NumberList xs) ns v h = numerals_fit types.MFTime is_time (λ x. value.MFTime x) make_mftime (length xs % 1 == 0) xs v h
typed_fits types.MFTime raw.EmptyList ns v h = none_fit types.MFTime (λ x. value.MFTime x) v (λ c. refl) h
typed_fits types.MFTime _ ns v h = absurd cc
typed_fits types.MFVec2f (raw.Numbers xs) ns v h = numerals_fit types.MFVec2f is_number (λ x. value.MFVec2f (pairs x)) make_mfvec2f (length xs == 2) xs v h
typed_fits types.MFVec2f (raw.NumberList xs) ns v h = numerals_fit types.MFVec2f is_number (λ x. value.MFVec2f (pairs x)) make_mfvec2f (length xs % 2 == 0) xs v h
typed_fits types.MFVec2f raw.EmptyList ns v h = none_fit types.MFVec2f (λ x. value.MFVec2f (pairs x)) v (λ c. refl) h
typed_fits types.MFVec2f _ ns v h = absurd cc
typed_fits types.MFVec3f (raw.Numbers xs) ns v h = numerals_fit types.MFVec3f is_number (λ x. value.MFVec3f (vectors x)) make_mfvec3f (length xs == 3) xs v h
typed_fits types.MFVec3f (raw.NumberList xs) ns v h = numerals_fit types.MFVec3f is_number (λ x. value.MFVec3f (vectors x)) make_mfvec3f (length xs % 3 == 0) xs v h
typed_fits types.MFVec3f raw.EmptyList ns v h = none_fit types.MFVec3f (λ x. value.MFVec3f (vectors x)) v (λ c. refl) h
typed_fits types.MFVec3f _ ns v h = absurd cc
typed_fits types.MFColor (raw.Numbers xs) ns v h = numerals_fit types.MFColor is_number (λ x. value.MFColor (colors x)) make_mfcolor (length xs == 3) xs v h
typed_fits types.MFColor (raw.NumberList xs) ns v h = numerals_fit types.MFColor is_number (λ x. value.MFColor (colors x)) make_mfcolor (length xs % 3 == 0) xs v h
typed_fits types.MFColor raw.EmptyList ns v h = none_fit types.MFColor (λ x. value.MFColor (colors x)) v (λ c. refl) h
typed_fits types.MFColor _ ns v h = absurd cc
