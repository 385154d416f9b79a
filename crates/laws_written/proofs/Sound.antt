-- The values that a scene begins with are sound, where the texts of its document are UTF-8.
use Rattle.std.proofs.Common.{◌≡◌, ℕ, zero, suc, ◌-◌, ◌^◌, ◌%◌, ◌<◌, ◌==◌, ℤ, pos, negsuc, int_le, unsigned_abs, Bool, true, false, ◌&&◌, if◌then◌else◌, List, [], ◌∷◌, length, map, Option, Some, None, Result, Ok, Err, refl, subst}
use Rattle.std.specs.List.{AllByRecursion, flat_map, list_all}
use Rattle.std.specs.Str.{is_utf8}
use Rattle.x3d_values.specs.declared.field_type.FieldType.{FieldType}
use Rattle.x3d_values.specs.declared.field_type.FieldType.TheVariants as types
use Rattle.x3d_values.specs.declared.value.Value.{Value}
use Rattle.x3d_values.specs.Values.{nodes_of}
use Rattle.x3d_values.specs.declared.value.Value.TheVariants as value
use Rattle.classic_tree.specs.declared.tree.RawValue.{RawValue}
use Rattle.classic_tree.specs.declared.tree.RawValue.TheVariants as raw
use Rattle.scene_values.specs.declared.fault.ValueFault.{ValueFault}
use Rattle.scene_values.specs.declared.fault.ValueFault.TheVariants.{ValueRange, WrongType}
use Rattle.scene_values.specs.Grouping.{component, pair, vector, color, pairs, vectors, colors}
use Rattle.scene_values.specs.Quantities.{is_integer, whole}
use Rattle.scene_values.specs.Typing.{called, made, truth as truth_in, truths, string, strings, node, nodes, typed}
use Rattle.scene_text.specs.Raw.{pair_run, vector_run, color_run}
use Rattle.laws_written.specs.Values.{is_int32, is_number, is_time, is_sound}
use Rattle.laws_documents.specs.Named.{has_utf8}
use Rattle.laws_written.proofs.Tests.{both, and_true}

abbrev ok : {A : Type 0} → A → Result A ValueFault
ok x = Ok x

ok_is : {A : Type 0} (x y : A) → ok x ≡ ok y → x ≡ y
ok_is x y e = cc

made_is : {X Y : Type 0} (f : X → Y) (r : Result X ValueFault) (y : Y) → made f r ≡ Ok y → (x : X) × (r ≡ Ok x) × (f x ≡ y)
made_is f (Err e) y h = absurd cc
made_is f (Ok x) y h = (x, refl, ok_is (f x) y h)

-- ---- numerals

abbrev IsSound : Value → Type 0
IsSound v = is_sound v ≡ true

all_right : (p : ℤ → Bool) (ns ms : List ℤ) (right all : Bool) → list_all p ns ≡ all
    → (if right then (if all then Ok ns else Err ValueRange) else Err WrongType) ≡ ok ms → list_all p ms ≡ true
all_right p ns ms true true e h = subst (λ (l : List ℤ). list_all p l ≡ true) (ok_is ns ms h) e
all_right p ns ms true false e h = absurd cc
all_right p ns ms false all e h = absurd cc

part_fits : (p : ℤ → Bool) (ms : List ℤ) (n : ℕ) → p (pos 0) ≡ true → list_all p ms ≡ true → p (component ms n) ≡ true
part_fits p [] n z a = z
part_fits p (m ∷ ms) zero z a = (both (p m) (list_all p ms) a).0
part_fits p (m ∷ ms) (suc n) z a = part_fits p ms n z (both (p m) (list_all p ms) a).1

whole_sound : (z : ℤ) → is_integer z ≡ true → is_int32 (whole z) ≡ true
whole_sound z h = (both (unsigned_abs z % 10 ^ 6 == 0) (int_le (negsuc (2 ^ 31 - 1)) (whole z) && int_le (whole z) (pos (2 ^ 31 - 1))) h).1

wholes_sound : (zs : List ℤ) → list_all is_integer zs ≡ true → list_all is_int32 (map whole zs) ≡ true
wholes_sound [] h = refl
wholes_sound (z ∷ zs) h = let b = both (is_integer z) (list_all is_integer zs) h in and_true _ _ (whole_sound z b.0) (wholes_sound zs b.1)

abbrev AreNumbers : List ℤ → Type 0
AreNumbers zs = list_all is_number zs ≡ true

pairs_sound : (zs : List ℤ) → AreNumbers zs → AreNumbers (flat_map pair_run (pairs zs))
pairs_sound [] h = refl
pairs_sound (x ∷ []) h = refl
pairs_sound (x ∷ (y ∷ zs)) h =
    let a = both (is_number x) (list_all is_number (y ∷ zs)) h in
    let b = both (is_number y) (list_all is_number zs) a.1 in
    and_true _ _ a.0 (and_true _ _ b.0 (pairs_sound zs b.1))

vectors_sound : (zs : List ℤ) → AreNumbers zs → AreNumbers (flat_map vector_run (vectors zs))
vectors_sound [] h = refl
vectors_sound (x ∷ []) h = refl
vectors_sound (x ∷ (y ∷ [])) h = refl
vectors_sound (x ∷ (y ∷ (z ∷ zs))) h =
    let a = both (is_number x) (list_all is_number (y ∷ (z ∷ zs))) h in
    let b = both (is_number y) (list_all is_number (z ∷ zs)) a.1 in
    let c = both (is_number z) (list_all is_number zs) b.1 in
    and_true _ _ a.0 (and_true _ _ b.0 (and_true _ _ c.0 (vectors_sound zs c.1)))

colors_sound : (zs : List ℤ) → AreNumbers zs → AreNumbers (flat_map color_run (colors zs))
colors_sound [] h = refl
colors_sound (x ∷ []) h = refl
colors_sound (x ∷ (y ∷ [])) h = refl
colors_sound (x ∷ (y ∷ (z ∷ zs))) h =
    let a = both (is_number x) (list_all is_number (y ∷ (z ∷ zs))) h in
    let b = both (is_number y) (list_all is_number (z ∷ zs)) a.1 in
    let c = both (is_number z) (list_all is_number zs) b.1 in
    and_true _ _ a.0 (and_true _ _ b.0 (and_true _ _ c.0 (colors_sound zs c.1)))

-- ---- values

abbrev tested : (ℤ → Bool) → Bool → List ℤ → Result (List ℤ) ValueFault
tested p right ns = if right then (if list_all p ns then Ok ns else Err ValueRange) else Err WrongType

-- what is made of numerals in range is sound
abbrev Makes : (ℤ → Bool) → (List ℤ → Value) → Type 0
Makes p f = (ns : List ℤ) → list_all p ns ≡ true → IsSound (f ns)

module _ (p : ℤ → Bool) (f : List ℤ → Value) (k : Makes p f) where
  numerals : (right : Bool) (ns : List ℤ) (v : Value)
      → made f (if right then (if list_all p ns then Ok ns else Err ValueRange) else Err WrongType) ≡ Ok v → IsSound v
  numerals right ns v h =
      let m = made_is f (if right then (if list_all p ns then Ok ns else Err ValueRange) else Err WrongType) v h in
      subst IsSound m.2 (k m.0 (all_right p ns m.0 right (list_all p ns) refl m.1))

  none : (v : Value) → made f (Ok []) ≡ Ok v → IsSound v
  none v h = subst IsSound (ok_is (f []) v h) (k [] refl)

make_int : Makes is_integer (λ r. value.SFInt32 (whole (component r 0)))
make_int ns a = whole_sound (component ns 0) (part_fits is_integer ns 0 refl a)

make_float : Makes is_number (λ r. value.SFFloat (component r 0))
make_float ns a = part_fits is_number ns 0 refl a

make_time : Makes is_time (λ r. value.SFTime (component r 0))
make_time ns a = part_fits is_time ns 0 refl a

make_pair : Makes is_number (λ r. value.SFVec2f (pair r))
make_pair ns a = and_true _ _ (part_fits is_number ns 0 refl a) (and_true _ _ (part_fits is_number ns 1 refl a) refl)

make_vector : Makes is_number (λ r. value.SFVec3f (vector r))
make_vector ns a =
    and_true _ _ (part_fits is_number ns 0 refl a) (and_true _ _ (part_fits is_number ns 1 refl a) (and_true _ _ (part_fits is_number ns 2 refl a) refl))

make_color : Makes is_number (λ r. value.SFColor (color r))
make_color ns a =
    and_true _ _ (part_fits is_number ns 0 refl a) (and_true _ _ (part_fits is_number ns 1 refl a) (and_true _ _ (part_fits is_number ns 2 refl a) refl))

-- of one string, and of a list
string_sound : (r : RawValue ℕ) (s : List ℕ) → has_utf8 r ≡ true → string r ≡ Ok s → is_utf8 s ≡ true
string_sound (raw.String t) s u h = subst (λ (x : List ℕ). is_utf8 x ≡ true) (ok_is t s h) u
string_sound _ s u h = absurd cc

strings_sound : (r : RawValue ℕ) (ss : List (List ℕ)) → has_utf8 r ≡ true → strings r ≡ Ok ss → list_all is_utf8 ss ≡ true
strings_sound (raw.String t) ss u h = subst (λ (x : List (List ℕ)). list_all is_utf8 x ≡ true) (ok_is (t ∷ []) ss h) (and_true _ _ u refl)
strings_sound (raw.StringList ts) ss u h = subst (λ (x : List (List ℕ)). list_all is_utf8 x ≡ true) (ok_is ts ss h) u
strings_sound raw.EmptyList ss u h = subst (λ (x : List (List ℕ)). list_all is_utf8 x ≡ true) (ok_is [] ss h) refl
strings_sound _ ss u h = absurd cc

pub typed_sound : (t : FieldType) (r : RawValue ℕ) (numbers : List ℕ) (v : Value) → has_utf8 r ≡ true → typed t r numbers ≡ Ok v → IsSound v
typed_sound types.SFBool r ns v u h = let m = made_is value.SFBool (truth_in r) v h in subst IsSound m.2 refl
typed_sound types.SFString r ns v u h = let m = made_is value.SFString (string r) v h in subst IsSound m.2 (string_sound r m.0 u m.1)
typed_sound types.SFNode r ns v u h = let m = made_is value.SFNode (node ns r) v h in subst IsSound m.2 refl
typed_sound types.MFBool r ns v u h = let m = made_is value.MFBool (truths r) v h in subst IsSound m.2 refl
typed_sound types.MFString r ns v u h = let m = made_is value.MFString (strings r) v h in subst IsSound m.2 (strings_sound r m.0 u m.1)
typed_sound types.MFNode r ns v u h = let m = made_is value.MFNode (nodes ns r) v h in subst IsSound m.2 refl
typed_sound types.SFRotation r ns v u h = absurd cc
typed_sound types.SFInt32 (raw.Numbers xs) ns v u h = numerals is_integer (λ r. value.SFInt32 (whole (component r 0))) make_int (length xs == 1) xs v h
typed_sound types.SFInt32 _ ns v u h = absurd cc
typed_sound types.SFFloat (raw.Numbers xs) ns v u h = numerals is_number (λ r. value.SFFloat (component r 0)) make_float (length xs == 1) xs v h
typed_sound types.SFFloat _ ns v u h = absurd cc
typed_sound types.SFTime (raw.Numbers xs) ns v u h = numerals is_time (λ r. value.SFTime (component r 0)) make_time (length xs == 1) xs v h
typed_sound types.SFTime _ ns v u h = absurd cc
typed_sound types.SFVec2f (raw.Numbers xs) ns v u h = numerals is_number (λ r. value.SFVec2f (pair r)) make_pair (length xs == 2) xs v h
typed_sound types.SFVec2f _ ns v u h = absurd cc
typed_sound types.SFVec3f (raw.Numbers xs) ns v u h = numerals is_number (λ r. value.SFVec3f (vector r)) make_vector (length xs == 3) xs v h
typed_sound types.SFVec3f _ ns v u h = absurd cc
typed_sound types.SFColor (raw.Numbers xs) ns v u h = numerals is_number (λ r. value.SFColor (color r)) make_color (length xs == 3) xs v h
typed_sound types.SFColor _ ns v u h = absurd cc
typed_sound types.MFInt32 (raw.Numbers xs) ns v u h = numerals is_integer (λ l. value.MFInt32 (map whole l)) wholes_sound (length xs == 1) xs v h
typed_sound types.MFInt32 (raw.NumberList xs) ns v u h = numerals is_integer (λ l. value.MFInt32 (map whole l)) wholes_sound (length xs % 1 == 0) xs v h
typed_sound types.MFInt32 raw.EmptyList ns v u h = none is_integer (λ l. value.MFInt32 (map whole l)) wholes_sound v h
typed_sound types.MFInt32 _ ns v u h = absurd cc
typed_sound types.MFFloat (raw.Numbers xs) ns v u h = numerals is_number (λ l. value.MFFloat l) (λ l a. a) (length xs == 1) xs v h
typed_sound types.MFFloat (raw.NumberList xs) ns v u h = numerals is_number (λ l. value.MFFloat l) (λ l a. a) (length xs % 1 == 0) xs v h
typed_sound types.MFFloat raw.EmptyList ns v u h = none is_number (λ l. value.MFFloat l) (λ l a. a) v h
typed_sound types.MFFloat _ ns v u h = absurd cc
typed_sound types.MFTime (raw.Numbers xs) ns v u h = numerals is_time (λ l. value.MFTime l) (λ l a. a) (length xs == 1) xs v h
typed_sound types.MFTime (raw.NumberList xs) ns v u h = numerals is_time (λ l. value.MFTime l) (λ l a. a) (length xs % 1 == 0) xs v h
typed_sound types.MFTime raw.EmptyList ns v u h = none is_time (λ l. value.MFTime l) (λ l a. a) v h
typed_sound types.MFTime _ ns v u h = absurd cc
typed_sound types.MFVec2f (raw.Numbers xs) ns v u h = numerals is_number (λ l. value.MFVec2f (pairs l)) pairs_sound (length xs == 2) xs v h
typed_sound types.MFVec2f (raw.NumberList xs) ns v u h = numerals is_number (λ l. value.MFVec2f (pairs l)) pairs_sound (length xs % 2 == 0) xs v h
typed_sound types.MFVec2f raw.EmptyList ns v u h = none is_number (λ l. value.MFVec2f (pairs l)) pairs_sound v h
typed_sound types.MFVec2f _ ns v u h = absurd cc
typed_sound types.MFVec3f (raw.Numbers xs) ns v u h = numerals is_number (λ l. value.MFVec3f (vectors l)) vectors_sound (length xs == 3) xs v h
typed_sound types.MFVec3f (raw.NumberList xs) ns v u h = numerals is_number (λ l. value.MFVec3f (vectors l)) vectors_sound (length xs % 3 == 0) xs v h
typed_sound types.MFVec3f raw.EmptyList ns v u h = none is_number (λ l. value.MFVec3f (vectors l)) vectors_sound v h
typed_sound types.MFVec3f _ ns v u h = absurd cc
typed_sound types.MFColor (raw.Numbers xs) ns v u h = numerals is_number (λ l. value.MFColor (colors l)) colors_sound (length xs == 3) xs v h
typed_sound types.MFColor (raw.NumberList xs) ns v u h = numerals is_number (λ l. value.MFColor (colors l)) colors_sound (length xs % 3 == 0) xs v h
typed_sound types.MFColor raw.EmptyList ns v u h = none is_number (λ l. value.MFColor (colors l)) colors_sound v h
typed_sound types.MFColor _ ns v u h = absurd cc

-- ---- the nodes in a value are nodes of the scene

module _ (count : ℕ) (numbers : List ℕ) (low : (m : ℕ) → called numbers m < count) where
  abbrev IsClosed : Value → Type 0
  IsClosed v = AllByRecursion (λ (m : ℕ). m < count) (nodes_of v)

  no_node : {X : Type 0} (f : X → Value) (r : Result X ValueFault) (v : Value) → ((x : X) → IsClosed (f x)) → made f r ≡ Ok v → IsClosed v
  no_node f r v k h = let m = made_is f r v h in subst IsClosed m.2 (k m.0)

  one_closed : (r : RawValue ℕ) (o : Option ℕ) → node numbers r ≡ Ok o → IsClosed (value.SFNode o)
  one_closed raw.Null o h = subst (λ (o : Option ℕ). IsClosed (value.SFNode o)) (ok_is None o h) tt
  one_closed (raw.Node n) o h = subst (λ (o : Option ℕ). IsClosed (value.SFNode o)) (ok_is (Some (called numbers n)) o h) (low n, tt)
  one_closed _ o h = absurd cc

  called_closed : (ns : List ℕ) → AllByRecursion (λ (m : ℕ). m < count) (map (called numbers) ns)
  called_closed [] = tt
  called_closed (n ∷ ns) = (low n, called_closed ns)

  many_closed : (r : RawValue ℕ) (ns : List ℕ) → nodes numbers r ≡ Ok ns → IsClosed (value.MFNode ns)
  many_closed (raw.Node n) ns h = subst (λ (l : List ℕ). IsClosed (value.MFNode l)) (ok_is (called numbers n ∷ []) ns h) (low n, tt)
  many_closed (raw.NodeList ms) ns h = subst (λ (l : List ℕ). IsClosed (value.MFNode l)) (ok_is (map (called numbers) ms) ns h) (called_closed ms)
  many_closed raw.EmptyList ns h = subst (λ (l : List ℕ). IsClosed (value.MFNode l)) (ok_is [] ns h) tt
  many_closed _ ns h = absurd cc

  pub typed_closed : (t : FieldType) (r : RawValue ℕ) (v : Value) → typed t r numbers ≡ Ok v → IsClosed v
  typed_closed types.SFNode r v h = let m = made_is value.SFNode (node numbers r) v h in subst IsClosed m.2 (one_closed r m.0 m.1)
  typed_closed types.MFNode r v h = let m = made_is value.MFNode (nodes numbers r) v h in subst IsClosed m.2 (many_closed r m.0 m.1)
  typed_closed types.SFRotation r v h = absurd cc
  typed_closed types.SFBool r v h = no_node value.SFBool (truth_in r) v (λ x. tt) h
  typed_closed types.SFInt32 (raw.Numbers ns) v h = no_node (λ x. value.SFInt32 (whole (component x 0))) (tested is_integer (length ns == 1) ns) v (λ x. tt) h
  typed_closed types.SFInt32 _ v h = absurd cc
  typed_closed types.SFFloat (raw.Numbers ns) v h = no_node (λ x. value.SFFloat (component x 0)) (tested is_number (length ns == 1) ns) v (λ x. tt) h
  typed_closed types.SFFloat _ v h = absurd cc
  typed_closed types.SFTime (raw.Numbers ns) v h = no_node (λ x. value.SFTime (component x 0)) (tested is_time (length ns == 1) ns) v (λ x. tt) h
  typed_closed types.SFTime _ v h = absurd cc
  typed_closed types.SFString r v h = no_node value.SFString (string r) v (λ x. tt) h
  typed_closed types.SFVec2f (raw.Numbers ns) v h = no_node (λ x. value.SFVec2f (pair x)) (tested is_number (length ns == 2) ns) v (λ x. tt) h
  typed_closed types.SFVec2f _ v h = absurd cc
  typed_closed types.SFVec3f (raw.Numbers ns) v h = no_node (λ x. value.SFVec3f (vector x)) (tested is_number (length ns == 3) ns) v (λ x. tt) h
  typed_closed types.SFVec3f _ v h = absurd cc
  typed_closed types.SFColor (raw.Numbers ns) v h = no_node (λ x. value.SFColor (color x)) (tested is_number (length ns == 3) ns) v (λ x. tt) h
  typed_closed types.SFColor _ v h = absurd cc
  typed_closed types.MFBool r v h = no_node value.MFBool (truths r) v (λ x. tt) h
  typed_closed types.MFInt32 (raw.Numbers ns) v h = no_node (λ x. value.MFInt32 (map whole x)) (tested is_integer (length ns == 1) ns) v (λ x. tt) h
  typed_closed types.MFInt32 (raw.NumberList ns) v h = no_node (λ x. value.MFInt32 (map whole x)) (tested is_integer (length ns % 1 == 0) ns) v (λ x. tt) h
  typed_closed types.MFInt32 raw.EmptyList v h = no_node (λ x. value.MFInt32 (map whole x)) (Ok []) v (λ x. tt) h
  typed_closed types.MFInt32 _ v h = absurd cc
  typed_closed types.MFFloat (raw.Numbers ns) v h = no_node (λ x. value.MFFloat x) (tested is_number (length ns == 1) ns) v (λ x. tt) h
  typed_closed types.MFFloat (raw.NumberList ns) v h = no_node (λ x. value.MFFloat x) (tested is_number (length ns % 1 == 0) ns) v (λ x. tt) h
  typed_closed types.MFFloat raw.EmptyList v h = no_node (λ x. value.MFFloat x) (Ok []) v (λ x. tt) h
  typed_closed types.MFFloat _ v h = absurd cc
  typed_closed types.MFTime (raw.Numbers ns) v h = no_node (λ x. value.MFTime x) (tested is_time (length ns == 1) ns) v (λ x. tt) h
  typed_closed types.MFTime (raw.NumberList ns) v h = no_node (λ x. value.MFTime x) (tested is_time (length ns % 1 == 0) ns) v (λ x. tt) h
  typed_closed types.MFTime raw.EmptyList v h = no_node (λ x. value.MFTime x) (Ok []) v (λ x. tt) h
  typed_closed types.MFTime _ v h = absurd cc
  typed_closed types.MFString r v h = no_node value.MFString (strings r) v (λ x. tt) h
  typed_closed types.MFVec2f (raw.Numbers ns) v h = no_node (λ x. value.MFVec2f (pairs x)) (tested is_number (length ns == 2) ns) v (λ x. tt) h
  typed_closed types.MFVec2f (raw.NumberList ns) v h = no_node (λ x. value.MFVec2f (pairs x)) (tested is_number (length ns % 2 == 0) ns) v (λ x. tt) h
  typed_closed types.MFVec2f raw.EmptyList v h = no_node (λ x. value.MFVec2f (pairs x)) (Ok []) v (λ x. tt) h
  typed_closed types.MFVec2f _ v h = absurd cc
  typed_closed types.MFVec3f (raw.Numbers ns) v h = no_node (λ x. value.MFVec3f (vectors x)) (tested is_number (length ns == 3) ns) v (λ x. tt) h
  typed_closed types.MFVec3f (raw.NumberList ns) v h = no_node (λ x. value.MFVec3f (vectors x)) (tested is_number (length ns % 3 == 0) ns) v (λ x. tt) h
  typed_closed types.MFVec3f raw.EmptyList v h = no_node (λ x. value.MFVec3f (vectors x)) (Ok []) v (λ x. tt) h
  typed_closed types.MFVec3f _ v h = absurd cc
  typed_closed types.MFColor (raw.Numbers ns) v h = no_node (λ x. value.MFColor (colors x)) (tested is_number (length ns == 3) ns) v (λ x. tt) h
  typed_closed types.MFColor (raw.NumberList ns) v h = no_node (λ x. value.MFColor (colors x)) (tested is_number (length ns % 3 == 0) ns) v (λ x. tt) h
  typed_closed types.MFColor raw.EmptyList v h = no_node (λ x. value.MFColor (colors x)) (Ok []) v (λ x. tt) h
  typed_closed types.MFColor _ v h = absurd cc
