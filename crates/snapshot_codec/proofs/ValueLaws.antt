-- What is read as a value was written so, and what is written so is read.
use Rattle.std.proofs.Common.{◌≡◌, ℕ, suc, ◌^◌, ◌<◌, Bool, true, false, cond, List, ◌++◌, Option, Some, None, refl, sym, ap, subst, ◌∙◌, arith}
use Rattle.std.specs.Prelude.{ℤ, pos, negsuc}
use Rattle.std.specs.Int.{w32, w64}
use Rattle.std.specs.Str.{is_utf8}
use Rattle.std.proofs.lemmas.Bool.{lt-ltb, leb-true}
use Rattle.byte_codec.specs.Codec.{Codec, at_front, only_if, fits_signed, signed, string, truth}
use Rattle.byte_codec.specs.Exact.{IsBytes, IsExact, Took}
use Rattle.byte_codec.proofs.Laws.{bind_some, some_is, refined_exact, named_exact, checked_exact, pair_exact, wide32, string_exact, truth_exact, signed32_exact, signed64_exact}
use Rattle.byte_codec.proofs.LawsOfLists.{counted_exact}
use Rattle.x3d_values.specs.declared.vector.Vec2.{Vec2}
use Rattle.x3d_values.specs.declared.vector.Vec3.{Vec3}
use Rattle.x3d_values.specs.declared.vector.Color.{Color}
use Rattle.x3d_values.specs.declared.field_type.FieldType.{FieldType}
use Rattle.x3d_values.specs.declared.field_type.FieldType.TheVariants as types
use Rattle.x3d_values.specs.declared.value.Value.{Value}
use Rattle.x3d_values.specs.declared.value.Value.TheVariants.{SFBool, SFInt32, SFFloat, SFTime, SFString, SFVec2f, SFVec3f, SFColor, MFBool, MFInt32, MFFloat, MFTime, MFString, MFVec2f, MFVec3f, MFColor}
use Rattle.snapshot_codec.specs.Values.{restricted, is_within, within, number, time, text, vector2, vector3, color, list_of, value_text, read_as, list_at, value_at, value_fits, value_codec}

-- ---- those of a codec that pass a test

abbrev some : {A : Type 0} → A → Option A
some x = Some x

pub chosen : {A : Type 0} (p : A → Bool) (a b : A) (t : Bool) → p a ≡ t → cond t (some a) None ≡ some b → (b ≡ a) × (p b ≡ true)
chosen {A} p a b true is e = let same : a ≡ b = some_is a b e in (sym same, subst (λ (z : A). p z ≡ true) same is)
chosen p a b false is e = absurd cc

pub restricted_exact : {A : Type 0} (p : A → Bool) (c : Codec A) → ((x : A) → p x ≡ true → c.fits x ≡ true) → IsExact c → IsExact (restricted p c)
restricted_exact p c fits e = refined_exact (only_if p) (λ x. x) p c (record {
  back = λ a b ok is. chosen p a b (p a) refl is;
  forth = λ b ok. (fits b ok, rw ok refl);
}) e

-- ---- numbers and what is made of them

within-signed : (limit : ℕ) → limit < 2 ^ 63 → (z : ℤ) → is_within limit z ≡ true → fits_signed w64 z ≡ true
within-signed limit small (pos n) e = lt-ltb _ _ (omega (arith, leb-true n limit e))
within-signed limit small (negsuc n) e = lt-ltb _ _ (omega (arith, leb-true (suc n) limit e))

pub within_exact : (limit : ℕ) → limit < 2 ^ 63 → IsExact (within limit)
within_exact limit small = restricted_exact (is_within limit) _ (within-signed limit small) signed64_exact

pub number_exact : IsExact number
number_exact = within_exact (10 ^ 15) (omega arith)

pub time_exact : IsExact time
time_exact = within_exact (10 ^ 18) (omega arith)

pub text_exact : IsExact text
unfolding text
text_exact = checked_exact is_utf8 string string_exact

pub vector2_exact : IsExact vector2
unfolding vector2
vector2_exact = named_exact (λ (t : ℤ × ℤ). let v : Vec2 = record { x = t.0; y = t.1 } in v) (λ v. (v.x, v.y)) _ (λ a. refl) (λ b. refl) (pair_exact _ _ number_exact number_exact)

pub vector3_exact : IsExact vector3
unfolding vector3
vector3_exact = named_exact (λ (t : ℤ × (ℤ × ℤ)). let v : Vec3 = record { x = t.0; y = t.1.0; z = t.1.1 } in v) (λ v. (v.x, (v.y, v.z))) _ (λ a. refl) (λ b. refl) (pair_exact _ _ number_exact (pair_exact _ _ number_exact number_exact))

pub color_exact : IsExact color
unfolding color
color_exact = named_exact (λ (t : ℤ × (ℤ × ℤ)). let c : Color = record { red = t.0; green = t.1.0; blue = t.1.1 } in c) (λ c. (c.red, (c.green, c.blue))) _ (λ a. refl) (λ b. refl) (pair_exact _ _ number_exact (pair_exact _ _ number_exact number_exact))

pub list_exact : {A : Type 0} {c : Codec A} → IsExact c → IsExact (list_of c)
list_exact {A} {c} e = counted_exact w32 c wide32 e

-- ---- values

-- what is read by a codec as a value of a type was written so
takes_as : {A : Type 0} (c : Codec A) → IsExact c → (make : A → Value) (t : FieldType) → ((x : A) → value_text (make x) ≡ c.write x) → ((x : A) → value_fits t (make x) ≡ c.fits x) → (bytes : List ℕ) (v : Value) (rest : List ℕ) → IsBytes bytes → read_as c make bytes ≡ Some (v, rest) → Took (value_codec t) bytes v rest
takes_as {A} c p make t same ok bytes v rest h e =
    let a = bind_some (c.read bytes) (at_front (λ (x : A). Some (make x))) (v, rest) e in
    let took = p.takes bytes a.0.0 a.0.1 h a.1 in
    let made : Value × List ℕ = (make a.0.0, a.0.1) in
    let P : Value × List ℕ → Type 0 = λ z. Took (value_codec t) bytes z.0 z.1 in
    subst P {x = made} (some_is made (v, rest) a.2) (record {
      parts = took.parts ∙ ap (λ (s : List ℕ). s ++ a.0.1) (sym (same a.0.0));
      valid = ok a.0.0 ∙ took.valid;
    })

again_as : {A : Type 0} (c : Codec A) → IsExact c → (make : A → Value) (x : A) (rest : List ℕ) → c.fits x ≡ true → read_as c make (c.write x ++ rest) ≡ Some (make x, rest)
again_as c p make x rest fits = rw (p.again x rest fits) refl

again : (t : FieldType) (v : Value) (rest : List ℕ) → value_fits t v ≡ true → value_at t (value_text v ++ rest) ≡ Some (v, rest)
unfolding list_at value_at value_fits
again types.SFBool (SFBool x) rest fits = again_as truth truth_exact (λ x. SFBool x) x rest fits
again types.SFBool v rest fits = absurd cc
again types.SFInt32 (SFInt32 x) rest fits = again_as (signed w32) signed32_exact (λ x. SFInt32 x) x rest fits
again types.SFInt32 v rest fits = absurd cc
again types.SFFloat (SFFloat x) rest fits = again_as number number_exact (λ x. SFFloat x) x rest fits
again types.SFFloat v rest fits = absurd cc
again types.SFTime (SFTime x) rest fits = again_as time time_exact (λ x. SFTime x) x rest fits
again types.SFTime v rest fits = absurd cc
again types.SFString (SFString x) rest fits = again_as text text_exact (λ x. SFString x) x rest fits
again types.SFString v rest fits = absurd cc
again types.SFVec2f (SFVec2f x) rest fits = again_as vector2 vector2_exact (λ x. SFVec2f x) x rest fits
again types.SFVec2f v rest fits = absurd cc
again types.SFVec3f (SFVec3f x) rest fits = again_as vector3 vector3_exact (λ x. SFVec3f x) x rest fits
again types.SFVec3f v rest fits = absurd cc
again types.SFColor (SFColor x) rest fits = again_as color color_exact (λ x. SFColor x) x rest fits
again types.SFColor v rest fits = absurd cc
again types.MFBool (MFBool x) rest fits = again_as (list_of truth) (list_exact truth_exact) (λ x. MFBool x) x rest fits
again types.MFBool v rest fits = absurd cc
again types.MFInt32 (MFInt32 x) rest fits = again_as (list_of (signed w32)) (list_exact signed32_exact) (λ x. MFInt32 x) x rest fits
again types.MFInt32 v rest fits = absurd cc
again types.MFFloat (MFFloat x) rest fits = again_as (list_of number) (list_exact number_exact) (λ x. MFFloat x) x rest fits
again types.MFFloat v rest fits = absurd cc
again types.MFTime (MFTime x) rest fits = again_as (list_of time) (list_exact time_exact) (λ x. MFTime x) x rest fits
again types.MFTime v rest fits = absurd cc
again types.MFString (MFString x) rest fits = again_as (list_of text) (list_exact text_exact) (λ x. MFString x) x rest fits
again types.MFString v rest fits = absurd cc
again types.MFVec2f (MFVec2f x) rest fits = again_as (list_of vector2) (list_exact vector2_exact) (λ x. MFVec2f x) x rest fits
again types.MFVec2f v rest fits = absurd cc
again types.MFVec3f (MFVec3f x) rest fits = again_as (list_of vector3) (list_exact vector3_exact) (λ x. MFVec3f x) x rest fits
again types.MFVec3f v rest fits = absurd cc
again types.MFColor (MFColor x) rest fits = again_as (list_of color) (list_exact color_exact) (λ x. MFColor x) x rest fits
again types.MFColor v rest fits = absurd cc
again types.SFNode v rest fits = absurd cc
again types.MFNode v rest fits = absurd cc
again types.SFRotation v rest fits = absurd cc

pub value_exact : (t : FieldType) → IsExact (value_codec t)
unfolding list_at value_at value_fits
value_exact types.SFBool = record { takes = takes_as truth truth_exact (λ x. SFBool x) types.SFBool (λ x. refl) (λ x. refl); again = again types.SFBool }
value_exact types.SFInt32 = record { takes = takes_as (signed w32) signed32_exact (λ x. SFInt32 x) types.SFInt32 (λ x. refl) (λ x. refl); again = again types.SFInt32 }
value_exact types.SFFloat = record { takes = takes_as number number_exact (λ x. SFFloat x) types.SFFloat (λ x. refl) (λ x. refl); again = again types.SFFloat }
value_exact types.SFTime = record { takes = takes_as time time_exact (λ x. SFTime x) types.SFTime (λ x. refl) (λ x. refl); again = again types.SFTime }
value_exact types.SFString = record { takes = takes_as text text_exact (λ x. SFString x) types.SFString (λ x. refl) (λ x. refl); again = again types.SFString }
value_exact types.SFVec2f = record { takes = takes_as vector2 vector2_exact (λ x. SFVec2f x) types.SFVec2f (λ x. refl) (λ x. refl); again = again types.SFVec2f }
value_exact types.SFVec3f = record { takes = takes_as vector3 vector3_exact (λ x. SFVec3f x) types.SFVec3f (λ x. refl) (λ x. refl); again = again types.SFVec3f }
value_exact types.SFColor = record { takes = takes_as color color_exact (λ x. SFColor x) types.SFColor (λ x. refl) (λ x. refl); again = again types.SFColor }
value_exact types.MFBool = record { takes = takes_as (list_of truth) (list_exact truth_exact) (λ x. MFBool x) types.MFBool (λ x. refl) (λ x. refl); again = again types.MFBool }
value_exact types.MFInt32 = record { takes = takes_as (list_of (signed w32)) (list_exact signed32_exact) (λ x. MFInt32 x) types.MFInt32 (λ x. refl) (λ x. refl); again = again types.MFInt32 }
value_exact types.MFFloat = record { takes = takes_as (list_of number) (list_exact number_exact) (λ x. MFFloat x) types.MFFloat (λ x. refl) (λ x. refl); again = again types.MFFloat }
value_exact types.MFTime = record { takes = takes_as (list_of time) (list_exact time_exact) (λ x. MFTime x) types.MFTime (λ x. refl) (λ x. refl); again = again types.MFTime }
value_exact types.MFString = record { takes = takes_as (list_of text) (list_exact text_exact) (λ x. MFString x) types.MFString (λ x. refl) (λ x. refl); again = again types.MFString }
value_exact types.MFVec2f = record { takes = takes_as (list_of vector2) (list_exact vector2_exact) (λ x. MFVec2f x) types.MFVec2f (λ x. refl) (λ x. refl); again = again types.MFVec2f }
value_exact types.MFVec3f = record { takes = takes_as (list_of vector3) (list_exact vector3_exact) (λ x. MFVec3f x) types.MFVec3f (λ x. refl) (λ x. refl); again = again types.MFVec3f }
value_exact types.MFColor = record { takes = takes_as (list_of color) (list_exact color_exact) (λ x. MFColor x) types.MFColor (λ x. refl) (λ x. refl); again = again types.MFColor }
value_exact types.SFNode = record { takes = λ bytes v rest h e. absurd cc; again = again types.SFNode }
value_exact types.MFNode = record { takes = λ bytes v rest h e. absurd cc; again = again types.MFNode }
value_exact types.SFRotation = record { takes = λ bytes v rest h e. absurd cc; again = again types.SFRotation }
