-- A typed value has texts and lists no longer than the raw one, and so have defaults.
use Rattle.std.proofs.Common.{◌≡◌, ℕ, zero, suc, ◌≤◌, ◌%◌, ◌^◌, ◌==◌, ℤ, unsigned_abs, nat_le, Bool, true, false, if◌then◌else◌, nat_lt, List, [], ◌∷◌, length, map, Option, Some, None, Result, Ok, Err, refl, arith}
use Rattle.std.specs.Prelude.{◌&&◌, codes}
use Rattle.std.specs.List.{AllByRecursion, list_all}
use Rattle.std.specs.Option.{option_and_then}
use Rattle.std.specs.Str.{IsAscii}
use Rattle.std.proofs.lemmas.Bool.{ltb-true}
use Rattle.std.proofs.lemmas.List.{length-map}
use Rattle.std.proofs.lemmas.Str.{IsUtf8-from_ascii}
use Rattle.x3d_values.specs.Ranges.{is_time}
use Rattle.x3d_values.specs.Defaults.{default_value}
use Rattle.x3d_values.specs.Values.{empty_value}
use Rattle.x3d_values.specs.declared.default.FieldDefault.{FieldDefault}
use Rattle.x3d_values.specs.declared.default.FieldDefault.TheVariants as default
use Rattle.x3d_values.specs.declared.field_type.FieldType.{FieldType}
use Rattle.x3d_values.specs.declared.field_type.FieldType.TheVariants as types
use Rattle.x3d_values.specs.declared.value.Value.{Value}
use Rattle.x3d_values.specs.declared.value.Value.TheVariants as value
use Rattle.classic_lex.specs.Header.{max_len}
use Rattle.classic_tree.specs.declared.tree.RawValue.{RawValue}
use Rattle.classic_tree.specs.declared.tree.RawValue.TheVariants as raw
use Rattle.scene_values.specs.Grouping.{color, colors, component, pair, pairs, vector, vectors}
use Rattle.scene_values.specs.Quantities.{is_integer, whole}
use Rattle.scene_values.specs.Typing.{made, node, nodes, string, strings, truth, truths, typed}
use Rattle.scene_values.specs.declared.fault.ValueFault.{ValueFault}
use Rattle.scene_values.specs.declared.fault.ValueFault.TheVariants.{ValueRange, WrongType}
use Rattle.laws_documents.specs.Lengths.{IsShort, IsShortText}
use Rattle.laws_worlds.specs.Scenes.{IsShortIfAny, IsShortValue}

-- ---- what holds of an answer

abbrev pub IfValue : {A : Type 0} → (A → Type 0) → Result A ValueFault → Type 0
IfValue P (Ok a) = P a
IfValue P (Err e) = Unit {0}

made_so : {X Y : Type 0} (P : Y → Type 0) (f : X → Y) (r : Result X ValueFault) → IfValue (λ x. P (f x)) r → IfValue P (made f r)
made_so P f (Ok x) h = h
made_so P f (Err e) h = tt

anyway : {X : Type 0} (P : X → Type 0) (r : Result X ValueFault) → ((x : X) → P x) → IfValue P r
anyway P (Ok x) h = h x
anyway P (Err e) h = tt

-- ---- lists

pairs_few : (xs : List ℤ) → length (pairs xs) ≤ length xs
pairs_few [] = omega arith
pairs_few (x ∷ []) = omega arith
pairs_few (x ∷ (y ∷ xs)) = omega (arith, pairs_few xs)

vectors_few : (xs : List ℤ) → length (vectors xs) ≤ length xs
vectors_few [] = omega arith
vectors_few (x ∷ []) = omega arith
vectors_few (x ∷ (y ∷ [])) = omega arith
vectors_few (x ∷ (y ∷ (z ∷ xs))) = omega (arith, vectors_few xs)

colors_few : (xs : List ℤ) → length (colors xs) ≤ length xs
colors_few [] = omega arith
colors_few (x ∷ []) = omega arith
colors_few (x ∷ (y ∷ [])) = omega arith
colors_few (x ∷ (y ∷ (z ∷ xs))) = omega (arith, colors_few xs)

abbrev Short : RawValue ℕ → Type 0
Short r = IsShort max_len r

abbrev AreFew : {A : Type 0} → List A → Type 0
AreFew xs = length xs ≤ max_len

abbrev is_number : ℤ → Bool
is_number z = nat_le (unsigned_abs z) (10 ^ 15)

-- numerals that are checked
checked_so : (f : List ℤ → Value) (p : ℤ → Bool) (right : Bool) (xs : List ℤ) → IsShortValue max_len (f xs)
    → IfValue (IsShortValue max_len) (made f (if right then (if list_all p xs then Ok xs else Err ValueRange) else Err WrongType))
checked_so f p right xs h = by right (list_all p xs)
  where
    by : (right all : Bool) → IfValue (IsShortValue max_len) (made f (if right then (if all then Ok xs else Err ValueRange) else Err WrongType))
    by true true = h
    by true false = tt
    by false all = tt

truths_few : (r : RawValue ℕ) → Short r → IfValue (λ (bs : List Bool). AreFew bs) (truths r)
truths_few (raw.Truth b) h = omega arith
truths_few (raw.TruthList bs) h = h
truths_few raw.EmptyList h = omega arith
truths_few _ h = tt

string_short : (r : RawValue ℕ) → Short r → IfValue (IsShortText max_len) (string r)
string_short (raw.String text) h = h
string_short _ h = tt

strings_short : (r : RawValue ℕ) → Short r → IfValue (λ (ts : List (List ℕ)). AreFew ts × AllByRecursion (IsShortText max_len) ts) (strings r)
strings_short (raw.String text) h = (omega arith, (h, tt))
strings_short (raw.StringList texts) h = h
strings_short raw.EmptyList h = (omega arith, tt)
strings_short _ h = tt

-- ---- typed values

abbrev ShortValue : Value → Type 0
ShortValue v = IsShortValue max_len v

no_list : {X : Type 0} (f : X → Value) → ((x : X) → ShortValue (f x)) → (r : Result X ValueFault) → IfValue ShortValue (made f r)
no_list f k r = made_so ShortValue f r (anyway (λ x. ShortValue (f x)) r k)

pub typed_short : (t : FieldType) (r : RawValue ℕ) (numbers : List ℕ) → Short r → IfValue ShortValue (typed t r numbers)
typed_short types.SFBool r ns h = no_list value.SFBool (λ x. tt) (truth r)
typed_short types.SFString r ns h = made_so ShortValue value.SFString (string r) (string_short r h)
typed_short types.SFNode r ns h = no_list value.SFNode (λ x. tt) (node ns r)
typed_short types.MFBool r ns h = made_so ShortValue value.MFBool (truths r) (truths_few r h)
typed_short types.MFString r ns h = made_so ShortValue value.MFString (strings r) (strings_short r h)
typed_short types.MFNode r ns h = no_list value.MFNode (λ x. tt) (nodes ns r)
typed_short types.SFRotation r ns h = tt
typed_short types.SFInt32 (raw.Numbers xs) ns h = checked_so (λ x. value.SFInt32 (whole (component x 0))) is_integer (length xs == 1) xs tt
typed_short types.SFInt32 _ ns h = tt
typed_short types.SFFloat (raw.Numbers xs) ns h = checked_so (λ x. value.SFFloat (component x 0)) is_number (length xs == 1) xs tt
typed_short types.SFFloat _ ns h = tt
typed_short types.SFTime (raw.Numbers xs) ns h = checked_so (λ x. value.SFTime (component x 0)) is_time (length xs == 1) xs tt
typed_short types.SFTime _ ns h = tt
typed_short types.SFVec2f (raw.Numbers xs) ns h = checked_so (λ x. value.SFVec2f (pair x)) is_number (length xs == 2) xs tt
typed_short types.SFVec2f _ ns h = tt
typed_short types.SFVec3f (raw.Numbers xs) ns h = checked_so (λ x. value.SFVec3f (vector x)) is_number (length xs == 3) xs tt
typed_short types.SFVec3f _ ns h = tt
typed_short types.SFColor (raw.Numbers xs) ns h = checked_so (λ x. value.SFColor (color x)) is_number (length xs == 3) xs tt
typed_short types.SFColor _ ns h = tt
typed_short types.MFInt32 (raw.Numbers xs) ns h = checked_so (λ x. value.MFInt32 (map whole x)) is_integer (length xs == 1) xs (omega (arith, length-map xs whole, h))
typed_short types.MFInt32 (raw.NumberList xs) ns h = checked_so (λ x. value.MFInt32 (map whole x)) is_integer (length xs % 1 == 0) xs (omega (arith, length-map xs whole, h))
typed_short types.MFInt32 raw.EmptyList ns h = omega arith
typed_short types.MFInt32 _ ns h = tt
typed_short types.MFFloat (raw.Numbers xs) ns h = checked_so (λ x. value.MFFloat x) is_number (length xs == 1) xs h
typed_short types.MFFloat (raw.NumberList xs) ns h = checked_so (λ x. value.MFFloat x) is_number (length xs % 1 == 0) xs h
typed_short types.MFFloat raw.EmptyList ns h = omega arith
typed_short types.MFFloat _ ns h = tt
typed_short types.MFTime (raw.Numbers xs) ns h = checked_so (λ x. value.MFTime x) is_time (length xs == 1) xs h
typed_short types.MFTime (raw.NumberList xs) ns h = checked_so (λ x. value.MFTime x) is_time (length xs % 1 == 0) xs h
typed_short types.MFTime raw.EmptyList ns h = omega arith
typed_short types.MFTime _ ns h = tt
typed_short types.MFVec2f (raw.Numbers xs) ns h = checked_so (λ x. value.MFVec2f (pairs x)) is_number (length xs == 2) xs (omega (arith, pairs_few xs, h))
typed_short types.MFVec2f (raw.NumberList xs) ns h = checked_so (λ x. value.MFVec2f (pairs x)) is_number (length xs % 2 == 0) xs (omega (arith, pairs_few xs, h))
typed_short types.MFVec2f raw.EmptyList ns h = omega arith
typed_short types.MFVec2f _ ns h = tt
typed_short types.MFVec3f (raw.Numbers xs) ns h = checked_so (λ x. value.MFVec3f (vectors x)) is_number (length xs == 3) xs (omega (arith, vectors_few xs, h))
typed_short types.MFVec3f (raw.NumberList xs) ns h = checked_so (λ x. value.MFVec3f (vectors x)) is_number (length xs % 3 == 0) xs (omega (arith, vectors_few xs, h))
typed_short types.MFVec3f raw.EmptyList ns h = omega arith
typed_short types.MFVec3f _ ns h = tt
typed_short types.MFColor (raw.Numbers xs) ns h = checked_so (λ x. value.MFColor (colors x)) is_number (length xs == 3) xs (omega (arith, colors_few xs, h))
typed_short types.MFColor (raw.NumberList xs) ns h = checked_so (λ x. value.MFColor (colors x)) is_number (length xs % 3 == 0) xs (omega (arith, colors_few xs, h))
typed_short types.MFColor raw.EmptyList ns h = omega arith
typed_short types.MFColor _ ns h = tt

-- ---- defaults

halves : (a b : Bool) → (a && b) ≡ true → (a ≡ true) × (b ≡ true)
halves true b h = (refl, h)
halves false b h = cc

is_ascii : (bytes : List ℕ) → list_all (λ b. nat_lt b 128) bytes ≡ true → IsAscii bytes
is_ascii [] e i = omega arith
is_ascii (b ∷ bytes) e zero = ltb-true b 128 (halves (nat_lt b 128) (list_all (λ b. nat_lt b 128) bytes) e).0
is_ascii (b ∷ bytes) e (suc i) = is_ascii bytes (halves (nat_lt b 128) (list_all (λ b. nat_lt b 128) bytes) e).1 i

plain : (bytes : List ℕ) → list_all (λ b. nat_lt b 128) bytes ≡ true → length bytes ≤ max_len → IsShortText max_len bytes
plain bytes e few = (IsUtf8-from_ascii bytes (is_ascii bytes e), few)

empty_short : (t : FieldType) → IsShortIfAny max_len (empty_value t)
empty_short types.SFString = plain [] refl (omega arith)
empty_short types.MFBool = omega arith
empty_short types.MFInt32 = omega arith
empty_short types.MFFloat = omega arith
empty_short types.MFTime = omega arith
empty_short types.MFString = (omega arith, tt)
empty_short types.MFVec2f = omega arith
empty_short types.MFVec3f = omega arith
empty_short types.MFColor = omega arith
empty_short _ = tt

default_short : (t : FieldType) (d : FieldDefault) → IsShortIfAny max_len (default_value t d)
default_short t default.Empty = empty_short t
default_short t default.True = tt
default_short t (default.Int32 n) = tt
default_short t (default.Float n) = tt
default_short t (default.Time n) = tt
default_short t (default.Vec2f v) = tt
default_short t (default.Vec3f v) = tt
default_short t (default.Color c) = tt
default_short t default.PlainStyle = plain (codes "PLAIN") refl (omega arith)
default_short t default.SerifFamily = (omega arith, (plain (codes "SERIF") refl (omega arith), tt))
default_short t default.BeginJustify = (omega arith, (plain (codes "BEGIN") refl (omega arith), tt))
default_short t default.StandardAvatar = omega arith
default_short t default.ExamineAny = (omega arith, (plain (codes "EXAMINE") refl (omega arith), (plain (codes "ANY") refl (omega arith), tt)))
default_short t default.BlackSky = omega arith

pub default_or_none : (t : FieldType) (d : Option FieldDefault) → IsShortIfAny max_len (option_and_then (default_value t) d)
default_or_none t None = tt
default_or_none t (Some d) = default_short t d
