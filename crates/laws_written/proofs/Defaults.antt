-- What is left out of a text is a default, and every default is left out.
use Rattle.std.proofs.Common.{◌≡◌, ℕ, ◌==◌, ℤ, pos, true, false, ◌&&◌, List, [], ◌∷◌, codes, nat_eq, length, Option, Some, None, refl, sym, ap, subst, ◌∙◌, eqb-true}
use Rattle.std.specs.Ordering.{int_eq}
use Rattle.std.specs.Cmp.{signed_Decides}
use Rattle.std.specs.Cmp.Lexicographic.{pointwise}
use Rattle.std.proofs.lemmas.List.{nil_from_length}
use Rattle.std.proofs.lemmas.Slice.Eq.{bytes_eq-Decides}
use Rattle.x3d_values.specs.declared.default.FieldDefault.{FieldDefault}
use Rattle.x3d_values.specs.declared.default.FieldDefault.TheVariants as default
use Rattle.x3d_values.specs.declared.field_type.FieldType.{FieldType}
use Rattle.x3d_values.specs.declared.field_type.FieldType.TheVariants as types
use Rattle.x3d_values.specs.declared.value.Value.{Value}
use Rattle.x3d_values.specs.declared.value.Value.TheVariants as value
use Rattle.x3d_values.specs.declared.vector.Vec2.{Vec2}
use Rattle.x3d_values.specs.declared.vector.Vec3.{Vec3}
use Rattle.x3d_values.specs.declared.vector.Color.{Color}
use Rattle.x3d_values.specs.Defaults.{default_value}
use Rattle.x3d_values.specs.Values.{empty_value, type_of}
use Rattle.scene_text.specs.Defaulted.{is_zero, is_black, says_nothing, is_true, is_integer, is_number, is_time, is_pair, is_vector, is_color, is_string, is_word, is_examine_any, are_standard_sizes, is_one_black, is_default}
use Rattle.laws_written.specs.Defaults.{LeftOutAreDefaults, DefaultsAreLeftOut}
use Rattle.laws_written.proofs.Tests.{both, and_true}

-- ---- parts

same_number : (n m : ℤ) → int_eq n m ≡ true → m ≡ n
same_number n m h = sym ((signed_Decides n m).0 h)

same_text : (s t : List ℕ) → pointwise nat_eq s t ≡ true → t ≡ s
same_text s t h = sym ((bytes_eq-Decides s t).0 h)

itself : (n : ℤ) → int_eq n n ≡ true
itself n = (signed_Decides n n).1 refl

text_itself : (s : List ℕ) → pointwise nat_eq s s ≡ true
text_itself s = (bytes_eq-Decides s s).1 refl

nothing : {A : Type 0} (xs : List A) → (length xs == 0) ≡ true → [] ≡ xs
nothing xs h = sym (nil_from_length xs (eqb-true (length xs) 0 h))

abbrev two : ℤ → ℤ → Vec2
two x y = record { x = x; y = y }

abbrev three : ℤ → ℤ → ℤ → Vec3
three x y z = record { x = x; y = y; z = z }

abbrev of_three : ℤ → ℤ → ℤ → Color
of_three r g b = record { red = r; green = g; blue = b }

pair_is : (v : Vec2) (x y : ℤ) → x ≡ v.x → y ≡ v.y → two x y ≡ v
pair_is v x y p q = ap (λ k. two k y) p ∙ ap (λ k. two v.x k) q

vector_is : (v : Vec3) (x y z : ℤ) → x ≡ v.x → y ≡ v.y → z ≡ v.z → three x y z ≡ v
vector_is v x y z p q r = ap (λ k. three k y z) p ∙ (ap (λ k. three v.x k z) q ∙ ap (λ k. three v.x v.y k) r)

color_is : (c : Color) (x y z : ℤ) → x ≡ c.red → y ≡ c.green → z ≡ c.blue → of_three x y z ≡ c
color_is v x y z p q r = ap (λ k. of_three k y z) p ∙ (ap (λ k. of_three v.red k z) q ∙ ap (λ k. of_three v.red v.green k) r)

black_is : (c : Color) → is_black c ≡ true → of_three (pos 0) (pos 0) (pos 0) ≡ c
black_is c h =
    let a = both (is_zero c.red) (is_zero c.green && is_zero c.blue) h in
    let b = both (is_zero c.green) (is_zero c.blue) a.1 in
    color_is c (pos 0) (pos 0) (pos 0) (same_number c.red (pos 0) a.0) (same_number c.green (pos 0) b.0) (same_number c.blue (pos 0) b.1)

-- ---- what is left out is the default

empty_is : (v : Value) → says_nothing v ≡ true → empty_value (type_of v) ≡ Some v
empty_is (value.SFBool true) h = absurd cc
empty_is (value.SFBool false) h = refl
empty_is (value.SFInt32 n) h = ap (λ k. Some (value.SFInt32 k)) (same_number n (pos 0) h)
empty_is (value.SFFloat n) h = ap (λ k. Some (value.SFFloat k)) (same_number n (pos 0) h)
empty_is (value.SFTime n) h = ap (λ k. Some (value.SFTime k)) (same_number n (pos 0) h)
empty_is (value.SFString s) h = ap (λ k. Some (value.SFString k)) (nothing s h)
empty_is (value.SFVec2f v) h =
    let a = both (is_zero v.x) (is_zero v.y) h in
    ap (λ k. Some (value.SFVec2f k)) (pair_is v (pos 0) (pos 0) (same_number v.x (pos 0) a.0) (same_number v.y (pos 0) a.1))
empty_is (value.SFVec3f v) h =
    let a = both (is_zero v.x) (is_zero v.y && is_zero v.z) h in
    let b = both (is_zero v.y) (is_zero v.z) a.1 in
    ap (λ k. Some (value.SFVec3f k))
    (vector_is v (pos 0) (pos 0) (pos 0) (same_number v.x (pos 0) a.0) (same_number v.y (pos 0) b.0) (same_number v.z (pos 0) b.1))
empty_is (value.SFColor c) h = ap (λ k. Some (value.SFColor k)) (black_is c h)
empty_is (value.SFNode None) h = refl
empty_is (value.SFNode (Some n)) h = absurd cc
empty_is (value.MFBool l) h = ap (λ k. Some (value.MFBool k)) (nothing l h)
empty_is (value.MFInt32 l) h = ap (λ k. Some (value.MFInt32 k)) (nothing l h)
empty_is (value.MFFloat l) h = ap (λ k. Some (value.MFFloat k)) (nothing l h)
empty_is (value.MFTime l) h = ap (λ k. Some (value.MFTime k)) (nothing l h)
empty_is (value.MFString l) h = ap (λ k. Some (value.MFString k)) (nothing l h)
empty_is (value.MFVec2f l) h = ap (λ k. Some (value.MFVec2f k)) (nothing l h)
empty_is (value.MFVec3f l) h = ap (λ k. Some (value.MFVec3f k)) (nothing l h)
empty_is (value.MFColor l) h = ap (λ k. Some (value.MFColor k)) (nothing l h)
empty_is (value.MFNode l) h = ap (λ k. Some (value.MFNode k)) (nothing l h)

true_is : (v : Value) → is_true v ≡ true → Some (value.SFBool true) ≡ Some v
true_is (value.SFBool true) h = refl
true_is (value.SFBool false) h = absurd cc
true_is _ h = absurd cc

integer_is : (n : ℤ) (v : Value) → is_integer n v ≡ true → Some (value.SFInt32 n) ≡ Some v
integer_is n (value.SFInt32 m) h = ap (λ k. Some (value.SFInt32 k)) (same_number m n h)
integer_is n _ h = absurd cc

number_is : (n : ℤ) (v : Value) → is_number n v ≡ true → Some (value.SFFloat n) ≡ Some v
number_is n (value.SFFloat m) h = ap (λ k. Some (value.SFFloat k)) (same_number m n h)
number_is n _ h = absurd cc

time_is : (n : ℤ) (v : Value) → is_time n v ≡ true → Some (value.SFTime n) ≡ Some v
time_is n (value.SFTime m) h = ap (λ k. Some (value.SFTime k)) (same_number m n h)
time_is n _ h = absurd cc

pair_held : (w : Vec2) (v : Value) → is_pair w v ≡ true → Some (value.SFVec2f w) ≡ Some v
pair_held w (value.SFVec2f u) h =
    let a = both (int_eq u.x w.x) (int_eq u.y w.y) h in
    ap (λ k. Some (value.SFVec2f k)) (pair_is u w.x w.y (same_number u.x w.x a.0) (same_number u.y w.y a.1))
pair_held w _ h = absurd cc

vector3_is : (w : Vec3) (v : Value) → is_vector w v ≡ true → Some (value.SFVec3f w) ≡ Some v
vector3_is w (value.SFVec3f u) h =
    let a = both (int_eq u.x w.x) (int_eq u.y w.y && int_eq u.z w.z) h in
    let b = both (int_eq u.y w.y) (int_eq u.z w.z) a.1 in
    ap (λ k. Some (value.SFVec3f k)) (vector_is u w.x w.y w.z (same_number u.x w.x a.0) (same_number u.y w.y b.0) (same_number u.z w.z b.1))
vector3_is w _ h = absurd cc

colored_is : (w : Color) (v : Value) → is_color w v ≡ true → Some (value.SFColor w) ≡ Some v
colored_is w (value.SFColor u) h =
    let a = both (int_eq u.red w.red) (int_eq u.green w.green && int_eq u.blue w.blue) h in
    let b = both (int_eq u.green w.green) (int_eq u.blue w.blue) a.1 in
    ap (λ k. Some (value.SFColor k))
    (color_is u w.red w.green w.blue (same_number u.red w.red a.0) (same_number u.green w.green b.0) (same_number u.blue w.blue b.1))
colored_is w _ h = absurd cc

string_is : (s : List ℕ) (v : Value) → is_string s v ≡ true → Some (value.SFString s) ≡ Some v
string_is s (value.SFString t) h = ap (λ k. Some (value.SFString k)) (same_text t s h)
string_is s _ h = absurd cc

word_is : (s : List ℕ) (v : Value) → is_word s v ≡ true → Some (value.MFString (s ∷ [])) ≡ Some v
word_is s (value.MFString []) h = absurd cc
word_is s (value.MFString (t ∷ [])) h = ap (λ k. Some (value.MFString (k ∷ []))) (same_text t s h)
word_is s (value.MFString (t ∷ (u ∷ ts))) h = absurd cc
word_is s _ h = absurd cc

sizes_are : (v : Value) → are_standard_sizes v ≡ true → default_value (type_of v) default.StandardAvatar ≡ Some v
sizes_are (value.MFFloat []) h = absurd cc
sizes_are (value.MFFloat (x ∷ [])) h = absurd cc
sizes_are (value.MFFloat (x ∷ (y ∷ []))) h = absurd cc
sizes_are (value.MFFloat (x ∷ (y ∷ (z ∷ [])))) h =
    let a = both (int_eq x (pos 250000)) (int_eq y (pos 1600000) && int_eq z (pos 750000)) h in
    let b = both (int_eq y (pos 1600000)) (int_eq z (pos 750000)) a.1 in
    ap (λ k. Some (value.MFFloat (k ∷ pos 1600000 ∷ pos 750000 ∷ []))) (same_number x (pos 250000) a.0)
    ∙ (ap (λ k. Some (value.MFFloat (x ∷ k ∷ pos 750000 ∷ []))) (same_number y (pos 1600000) b.0)
    ∙ ap (λ k. Some (value.MFFloat (x ∷ y ∷ k ∷ []))) (same_number z (pos 750000) b.1))
sizes_are (value.MFFloat (x ∷ (y ∷ (z ∷ (w ∷ l))))) h = absurd cc
sizes_are _ h = absurd cc

examine_is : (v : Value) → is_examine_any v ≡ true → default_value (type_of v) default.ExamineAny ≡ Some v
examine_is (value.MFString []) h = absurd cc
examine_is (value.MFString (s ∷ [])) h = absurd cc
examine_is (value.MFString (s ∷ (t ∷ []))) h =
    let a = both (pointwise nat_eq s (codes "EXAMINE")) (pointwise nat_eq t (codes "ANY")) h in
    ap (λ k. Some (value.MFString (k ∷ codes "ANY" ∷ []))) (same_text s (codes "EXAMINE") a.0)
    ∙ ap (λ k. Some (value.MFString (s ∷ k ∷ []))) (same_text t (codes "ANY") a.1)
examine_is (value.MFString (s ∷ (t ∷ (u ∷ ts)))) h = absurd cc
examine_is _ h = absurd cc

one_black_is : (v : Value) → is_one_black v ≡ true → default_value (type_of v) default.BlackSky ≡ Some v
one_black_is (value.MFColor []) h = absurd cc
one_black_is (value.MFColor (c ∷ [])) h = ap (λ k. Some (value.MFColor (k ∷ []))) (black_is c h)
one_black_is (value.MFColor (c ∷ (d ∷ cs))) h = absurd cc
one_black_is _ h = absurd cc

pub left_out_are_defaults : LeftOutAreDefaults
left_out_are_defaults default.Empty v h = empty_is v h
left_out_are_defaults default.True v h = true_is v h
left_out_are_defaults (default.Int32 n) v h = integer_is n v h
left_out_are_defaults (default.Float n) v h = number_is n v h
left_out_are_defaults (default.Time n) v h = time_is n v h
left_out_are_defaults (default.Vec2f w) v h = pair_held w v h
left_out_are_defaults (default.Vec3f w) v h = vector3_is w v h
left_out_are_defaults (default.Color w) v h = colored_is w v h
left_out_are_defaults default.PlainStyle v h = string_is (codes "PLAIN") v h
left_out_are_defaults default.SerifFamily v h = word_is (codes "SERIF") v h
left_out_are_defaults default.BeginJustify v h = word_is (codes "BEGIN") v h
left_out_are_defaults default.StandardAvatar v h = sizes_are v h
left_out_are_defaults default.ExamineAny v h = examine_is v h
left_out_are_defaults default.BlackSky v h = one_black_is v h

-- ---- the default is left out

abbrev some : Value → Option Value
some v = Some v

some_is : (v w : Value) → some v ≡ some w → v ≡ w
some_is v w e = cc

left_out : (d : FieldDefault) (w v : Value) → is_default d w ≡ true → Some w ≡ Some v → is_default d v ≡ true
left_out d w v h e = subst (λ (x : Value). is_default d x ≡ true) (some_is w v e) h

nothing_said : (t : FieldType) (v : Value) → empty_value t ≡ Some v → says_nothing v ≡ true
nothing_said types.SFBool v e = left_out default.Empty (value.SFBool false) v refl e
nothing_said types.SFInt32 v e = left_out default.Empty (value.SFInt32 (pos 0)) v refl e
nothing_said types.SFFloat v e = left_out default.Empty (value.SFFloat (pos 0)) v refl e
nothing_said types.SFTime v e = left_out default.Empty (value.SFTime (pos 0)) v refl e
nothing_said types.SFString v e = left_out default.Empty (value.SFString []) v refl e
nothing_said types.SFVec2f v e = left_out default.Empty (value.SFVec2f (two (pos 0) (pos 0))) v refl e
nothing_said types.SFVec3f v e = left_out default.Empty (value.SFVec3f (three (pos 0) (pos 0) (pos 0))) v refl e
nothing_said types.SFColor v e = left_out default.Empty (value.SFColor (of_three (pos 0) (pos 0) (pos 0))) v refl e
nothing_said types.SFNode v e = left_out default.Empty (value.SFNode None) v refl e
nothing_said types.MFBool v e = left_out default.Empty (value.MFBool []) v refl e
nothing_said types.MFInt32 v e = left_out default.Empty (value.MFInt32 []) v refl e
nothing_said types.MFFloat v e = left_out default.Empty (value.MFFloat []) v refl e
nothing_said types.MFTime v e = left_out default.Empty (value.MFTime []) v refl e
nothing_said types.MFString v e = left_out default.Empty (value.MFString []) v refl e
nothing_said types.MFVec2f v e = left_out default.Empty (value.MFVec2f []) v refl e
nothing_said types.MFVec3f v e = left_out default.Empty (value.MFVec3f []) v refl e
nothing_said types.MFColor v e = left_out default.Empty (value.MFColor []) v refl e
nothing_said types.MFNode v e = left_out default.Empty (value.MFNode []) v refl e
nothing_said types.SFRotation v e = absurd cc

pub defaults_are_left_out : DefaultsAreLeftOut
defaults_are_left_out t default.Empty v e = nothing_said t v e
defaults_are_left_out t default.True v e = left_out default.True (value.SFBool true) v refl e
defaults_are_left_out t (default.Int32 n) v e = left_out (default.Int32 n) (value.SFInt32 n) v (itself n) e
defaults_are_left_out t (default.Float n) v e = left_out (default.Float n) (value.SFFloat n) v (itself n) e
defaults_are_left_out t (default.Time n) v e = left_out (default.Time n) (value.SFTime n) v (itself n) e
defaults_are_left_out t (default.Vec2f w) v e =
    left_out (default.Vec2f w) (value.SFVec2f w) v (and_true _ _ (itself w.x) (itself w.y)) e
defaults_are_left_out t (default.Vec3f w) v e =
    left_out (default.Vec3f w) (value.SFVec3f w) v (and_true _ _ (itself w.x) (and_true _ _ (itself w.y) (itself w.z))) e
defaults_are_left_out t (default.Color w) v e =
    left_out (default.Color w) (value.SFColor w) v (and_true _ _ (itself w.red) (and_true _ _ (itself w.green) (itself w.blue))) e
defaults_are_left_out t default.PlainStyle v e = left_out default.PlainStyle (value.SFString (codes "PLAIN")) v (text_itself (codes "PLAIN")) e
defaults_are_left_out t default.SerifFamily v e =
    left_out default.SerifFamily (value.MFString (codes "SERIF" ∷ [])) v (text_itself (codes "SERIF")) e
defaults_are_left_out t default.BeginJustify v e =
    left_out default.BeginJustify (value.MFString (codes "BEGIN" ∷ [])) v (text_itself (codes "BEGIN")) e
defaults_are_left_out t default.StandardAvatar v e =
    left_out default.StandardAvatar (value.MFFloat (pos 250000 ∷ pos 1600000 ∷ pos 750000 ∷ [])) v refl e
defaults_are_left_out t default.ExamineAny v e =
    left_out default.ExamineAny (value.MFString (codes "EXAMINE" ∷ codes "ANY" ∷ [])) v refl e
defaults_are_left_out t default.BlackSky v e =
    left_out default.BlackSky (value.MFColor (of_three (pos 0) (pos 0) (pos 0) ∷ [])) v refl e
