-- What is written of a sound value is typed as itself.
use Rattle.std.proofs.Common.{◌≡◌, ℕ, suc, ◌+◌, ◌*◌, ◌/◌, ◌%◌, ◌^◌, ◌-◌, ◌==◌, ℤ, pos, negsuc, neg_ℤ, int_le, unsigned_abs, Bool, true, false, ◌&&◌, if◌then◌else◌, List, [], ◌∷◌, length, map, Some, None, Result, Ok, Err, refl, sym, ap, subst, ◌∙◌, arith, eq-eqb}
use Rattle.std.specs.List.{AllByRecursion, flat_map, list_all}
use Rattle.std.proofs.lemmas.Int.{unsigned_abs-mul}
use Rattle.x3d_values.specs.declared.value.Value.{Value}
use Rattle.x3d_values.specs.declared.value.Value.TheVariants as value
use Rattle.x3d_values.specs.declared.vector.Vec2.{Vec2}
use Rattle.x3d_values.specs.declared.vector.Vec3.{Vec3}
use Rattle.x3d_values.specs.declared.vector.Color.{Color}
use Rattle.scene_values.specs.declared.fault.ValueFault.{ValueFault}
use Rattle.scene_values.specs.declared.fault.ValueFault.TheVariants.{ValueRange, WrongType}
use Rattle.scene_values.specs.Grouping.{component, pair, vector, color, pairs, vectors, colors}
use Rattle.scene_values.specs.Quantities.{is_integer, whole}
use Rattle.scene_values.specs.Typing.{called, made}
use Rattle.scene_text.specs.Raw.{in_millionths, integer_run, number_run, pair_run, vector_run, color_run}
use Rattle.laws_written.specs.Values.{is_int32, is_number, is_time, WrittenNodesAreTyped, WrittenValuesAreTyped}
use Rattle.laws_written.proofs.Tests.{both, and_true}

-- ---- whole numbers

div_again : (n : ℕ) → n * 1000000 / 10 ^ 6 ≡ n
div_again n = omega arith

div_below : (n : ℕ) → suc (n * 1000000 + 999999) / 10 ^ 6 ≡ suc n
div_below n = omega arith

next_is : (n : ℕ) → suc n * 1000000 ≡ suc (n * 1000000 + 999999)
next_is n = omega arith

whole_again : (n : ℤ) → whole (in_millionths n) ≡ n
whole_again (pos n) = ap (λ k. pos k) (div_again n)
whole_again (negsuc n) =
    ap (λ m. whole (neg_ℤ (pos m))) (next_is n) ∙ ap (λ k. neg_ℤ (pos k)) (div_below n)

no_rest : (u : ℕ) → u * 1000000 % 10 ^ 6 ≡ 0
no_rest u = omega arith

integer_again : (n : ℤ) → is_int32 n ≡ true → is_integer (in_millionths n) ≡ true
integer_again n s =
    and_true _ _ (eq-eqb (unsigned_abs (in_millionths n) % 10 ^ 6) 0 (ap (λ m. m % 10 ^ 6) (unsigned_abs-mul n (pos 1000000)) ∙ no_rest (unsigned_abs n)))
    (subst (λ w. (int_le (negsuc (2 ^ 31 - 1)) w && int_le w (pos (2 ^ 31 - 1))) ≡ true) (sym (whole_again n)) s)

pub integers_again : (ns : List ℤ) → list_all is_int32 ns ≡ true → list_all is_integer (flat_map integer_run ns) ≡ true
integers_again [] s = refl
integers_again (n ∷ ns) s =
    let b = both (is_int32 n) (list_all is_int32 ns) s in and_true _ _ (integer_again n b.0) (integers_again ns b.1)

-- ---- runs and lists of numerals

abbrev ok : {A : Type 0} → A → Result A ValueFault
ok x = Ok x

passed : (right all : Bool) (ns : List ℤ) → right ≡ true → all ≡ true
    → (if right then (if all then Ok ns else Err ValueRange) else Err WrongType) ≡ ok ns
passed true true ns r a = refl
passed true false ns r a = absurd cc
passed false all ns r a = absurd cc

run_typed : (p : ℤ → Bool) (make : List ℤ → Value) (right : Bool) (ns : List ℤ) (v : Value) → right ≡ true → list_all p ns ≡ true → make ns ≡ v
    → made make (if right then (if list_all p ns then Ok ns else Err ValueRange) else Err WrongType) ≡ Ok v
run_typed p make right ns v r a e =
    ap (λ x. made make x) (passed right (list_all p ns) ns r a) ∙ ap (λ (x : Value). ok x) e

-- ---- items of so many components

ones : {A : Type 0} (xs : List A) → (length xs % 1 == 0) ≡ true
ones xs = eq-eqb (length xs % 1) 0 (omega arith)

some_whole : (n k : ℕ) → n ≡ 2 * k → (n % 2 == 0) ≡ true
some_whole n k e = eq-eqb (n % 2) 0 (omega (arith, e))

some_triples : (n k : ℕ) → n ≡ 3 * k → (n % 3 == 0) ≡ true
some_triples n k e = eq-eqb (n % 3) 0 (omega (arith, e))

pair_count : (vs : List Vec2) → length (flat_map pair_run vs) ≡ 2 * length vs
pair_count [] = refl
pair_count (v ∷ vs) = let e = pair_count vs in omega (arith, e)

vector_count : (vs : List Vec3) → length (flat_map vector_run vs) ≡ 3 * length vs
vector_count [] = refl
vector_count (v ∷ vs) = let e = vector_count vs in omega (arith, e)

color_count : (cs : List Color) → length (flat_map color_run cs) ≡ 3 * length cs
color_count [] = refl
color_count (v ∷ vs) = let e = color_count vs in omega (arith, e)

wholes_again : (ns : List ℤ) → map whole (flat_map integer_run ns) ≡ ns
wholes_again [] = refl
wholes_again (n ∷ ns) = ap (λ k. k ∷ map whole (flat_map integer_run ns)) (whole_again n) ∙ ap (λ l. n ∷ l) (wholes_again ns)

singles : (ns : List ℤ) → flat_map number_run ns ≡ ns
singles [] = refl
singles (n ∷ ns) = ap (λ l. n ∷ l) (singles ns)

pairs_again : (vs : List Vec2) → pairs (flat_map pair_run vs) ≡ vs
pairs_again [] = refl
pairs_again (v ∷ vs) = ap (λ l. v ∷ l) (pairs_again vs)

vectors_again : (vs : List Vec3) → vectors (flat_map vector_run vs) ≡ vs
vectors_again [] = refl
vectors_again (v ∷ vs) = ap (λ l. v ∷ l) (vectors_again vs)

colors_again : (cs : List Color) → colors (flat_map color_run cs) ≡ cs
colors_again [] = refl
colors_again (c ∷ cs) = ap (λ l. c ∷ l) (colors_again cs)

all_singles : (p : ℤ → Bool) (ns : List ℤ) → list_all p ns ≡ true → list_all p (flat_map number_run ns) ≡ true
all_singles p ns a = subst (λ l. list_all p l ≡ true) (sym (singles ns)) a

-- ---- values

pub written_values_are_typed : WrittenValuesAreTyped
written_values_are_typed (value.SFBool b) ns n s = refl
written_values_are_typed (value.SFInt32 k) ns n s =
    run_typed is_integer (λ r. value.SFInt32 (whole (component r 0))) true (in_millionths k ∷ []) (value.SFInt32 k) refl
    (and_true _ _ (integer_again k s) refl) (ap (λ z. value.SFInt32 z) (whole_again k))
written_values_are_typed (value.SFFloat k) ns n s =
    run_typed is_number (λ r. value.SFFloat (component r 0)) true (k ∷ []) (value.SFFloat k) refl (and_true _ _ s refl) refl
written_values_are_typed (value.SFTime k) ns n s =
    run_typed is_time (λ r. value.SFTime (component r 0)) true (k ∷ []) (value.SFTime k) refl (and_true _ _ s refl) refl
written_values_are_typed (value.SFString t) ns n s = refl
written_values_are_typed (value.SFVec2f v) ns n s =
    run_typed is_number (λ r. value.SFVec2f (pair r)) true (pair_run v) (value.SFVec2f v) refl s refl
written_values_are_typed (value.SFVec3f v) ns n s =
    run_typed is_number (λ r. value.SFVec3f (vector r)) true (vector_run v) (value.SFVec3f v) refl s refl
written_values_are_typed (value.SFColor v) ns n s =
    run_typed is_number (λ r. value.SFColor (color r)) true (color_run v) (value.SFColor v) refl s refl
written_values_are_typed (value.SFNode None) ns n s = refl
written_values_are_typed (value.SFNode (Some m)) ns n s = absurd cc
written_values_are_typed (value.MFBool []) ns n s = refl
written_values_are_typed (value.MFBool (b ∷ bs)) ns n s = refl
written_values_are_typed (value.MFString []) ns n s = refl
written_values_are_typed (value.MFString (t ∷ ts)) ns n s = refl
written_values_are_typed (value.MFNode []) ns n s = refl
written_values_are_typed (value.MFNode (m ∷ ms)) ns n s = absurd cc
written_values_are_typed (value.MFInt32 []) ns n s = refl
written_values_are_typed (value.MFInt32 (k ∷ ks)) ns n s =
    run_typed is_integer (λ l. value.MFInt32 (map whole l)) (length (flat_map integer_run (k ∷ ks)) % 1 == 0) (flat_map integer_run (k ∷ ks)) (value.MFInt32 (k ∷ ks))
    (ones (flat_map integer_run (k ∷ ks))) (integers_again (k ∷ ks) s) (ap (λ l. value.MFInt32 l) (wholes_again (k ∷ ks)))
written_values_are_typed (value.MFFloat []) ns n s = refl
written_values_are_typed (value.MFFloat (k ∷ ks)) ns n s =
    run_typed is_number (λ l. value.MFFloat l) (length (flat_map number_run (k ∷ ks)) % 1 == 0) (flat_map number_run (k ∷ ks)) (value.MFFloat (k ∷ ks))
    (ones (flat_map number_run (k ∷ ks))) (all_singles is_number (k ∷ ks) s) (ap (λ l. value.MFFloat l) (singles (k ∷ ks)))
written_values_are_typed (value.MFTime []) ns n s = refl
written_values_are_typed (value.MFTime (k ∷ ks)) ns n s =
    run_typed is_time (λ l. value.MFTime l) (length (flat_map number_run (k ∷ ks)) % 1 == 0) (flat_map number_run (k ∷ ks)) (value.MFTime (k ∷ ks))
    (ones (flat_map number_run (k ∷ ks))) (all_singles is_time (k ∷ ks) s) (ap (λ l. value.MFTime l) (singles (k ∷ ks)))
written_values_are_typed (value.MFVec2f []) ns n s = refl
written_values_are_typed (value.MFVec2f (k ∷ ks)) ns n s =
    run_typed is_number (λ l. value.MFVec2f (pairs l)) (length (flat_map pair_run (k ∷ ks)) % 2 == 0) (flat_map pair_run (k ∷ ks)) (value.MFVec2f (k ∷ ks))
    (some_whole (length (flat_map pair_run (k ∷ ks))) (length (k ∷ ks)) (pair_count (k ∷ ks))) s (ap (λ l. value.MFVec2f l) (pairs_again (k ∷ ks)))
written_values_are_typed (value.MFVec3f []) ns n s = refl
written_values_are_typed (value.MFVec3f (k ∷ ks)) ns n s =
    run_typed is_number (λ l. value.MFVec3f (vectors l)) (length (flat_map vector_run (k ∷ ks)) % 3 == 0) (flat_map vector_run (k ∷ ks)) (value.MFVec3f (k ∷ ks))
    (some_triples (length (flat_map vector_run (k ∷ ks))) (length (k ∷ ks)) (vector_count (k ∷ ks))) s (ap (λ l. value.MFVec3f l) (vectors_again (k ∷ ks)))
written_values_are_typed (value.MFColor []) ns n s = refl
written_values_are_typed (value.MFColor (k ∷ ks)) ns n s =
    run_typed is_number (λ l. value.MFColor (colors l)) (length (flat_map color_run (k ∷ ks)) % 3 == 0) (flat_map color_run (k ∷ ks)) (value.MFColor (k ∷ ks))
    (some_triples (length (flat_map color_run (k ∷ ks))) (length (k ∷ ks)) (color_count (k ∷ ks))) s (ap (λ l. value.MFColor l) (colors_again (k ∷ ks)))

-- ---- with nodes

called_again : (put : ℕ → ℕ) (numbers : List ℕ) (ns : List ℕ) → AllByRecursion (λ n. called numbers (put n) ≡ n) ns
    → map (called numbers) (map put ns) ≡ ns
called_again put numbers [] h = refl
called_again put numbers (n ∷ ns) h =
    ap (λ k. k ∷ map (called numbers) (map put ns)) h.0 ∙ ap (λ l. n ∷ l) (called_again put numbers ns h.1)

pub written_nodes_are_typed : WrittenNodesAreTyped
written_nodes_are_typed (value.SFNode (Some n)) put numbers h s = ap (λ k. ok (value.SFNode (Some k))) h.0
written_nodes_are_typed (value.SFNode None) put numbers h s = refl
written_nodes_are_typed (value.MFNode []) put numbers h s = refl
written_nodes_are_typed (value.MFNode (n ∷ ns)) put numbers h s =
    ap (λ l. ok (value.MFNode l)) (called_again put numbers (n ∷ ns) h)
written_nodes_are_typed (value.SFBool x) put numbers h s = written_values_are_typed (value.SFBool x) numbers refl s
written_nodes_are_typed (value.SFInt32 x) put numbers h s = written_values_are_typed (value.SFInt32 x) numbers refl s
written_nodes_are_typed (value.SFFloat x) put numbers h s = written_values_are_typed (value.SFFloat x) numbers refl s
written_nodes_are_typed (value.SFTime x) put numbers h s = written_values_are_typed (value.SFTime x) numbers refl s
written_nodes_are_typed (value.SFString x) put numbers h s = written_values_are_typed (value.SFString x) numbers refl s
written_nodes_are_typed (value.SFVec2f x) put numbers h s = written_values_are_typed (value.SFVec2f x) numbers refl s
written_nodes_are_typed (value.SFVec3f x) put numbers h s = written_values_are_typed (value.SFVec3f x) numbers refl s
written_nodes_are_typed (value.SFColor x) put numbers h s = written_values_are_typed (value.SFColor x) numbers refl s
written_nodes_are_typed (value.MFBool x) put numbers h s = written_values_are_typed (value.MFBool x) numbers refl s
written_nodes_are_typed (value.MFInt32 x) put numbers h s = written_values_are_typed (value.MFInt32 x) numbers refl s
written_nodes_are_typed (value.MFFloat x) put numbers h s = written_values_are_typed (value.MFFloat x) numbers refl s
written_nodes_are_typed (value.MFTime x) put numbers h s = written_values_are_typed (value.MFTime x) numbers refl s
written_nodes_are_typed (value.MFString x) put numbers h s = written_values_are_typed (value.MFString x) numbers refl s
written_nodes_are_typed (value.MFVec2f x) put numbers h s = written_values_are_typed (value.MFVec2f x) numbers refl s
written_nodes_are_typed (value.MFVec3f x) put numbers h s = written_values_are_typed (value.MFVec3f x) numbers refl s
written_nodes_are_typed (value.MFColor x) put numbers h s = written_values_are_typed (value.MFColor x) numbers refl s
