-- What is written of a sound value without nodes is spellable.
use Rattle.std.proofs.Common.{◌≡◌, ℕ, ◌^◌, ◌-◌, ◌≤◌, ℤ, pos, negsuc, int_le, unsigned_abs, Bool, true, List, [], ◌∷◌, Some, None, sym, subst, arith, leb-true}
use Rattle.std.specs.Str.{IsUtf8, is_utf8}
use Rattle.std.specs.List.{AllByRecursion, flat_map, list_all}
use Rattle.std.proofs.lemmas.Int.{ints, unsigned_abs-mul}
use Rattle.std.proofs.lemmas.Str.{IsUtf8-from_is_utf8}
use Rattle.x3d_numerals.specs.NumberText.{IsLimited}
use Rattle.x3d_values.specs.declared.value.Value.{Value}
use Rattle.x3d_values.specs.declared.value.Value.TheVariants as value
use Rattle.x3d_values.specs.Values.{nodes_of}
use Rattle.classic_tree.specs.declared.tree.NodeText.{NodeText}
use Rattle.classic_round_trip.specs.Spellable.{IsSpellableValue}
use Rattle.scene_text.specs.Raw.{in_millionths, integer_run, number_run, pair_run, vector_run, color_run, number_list, string_list}
use Rattle.scene_text.specs.Tree.{Makes, value_tree}
use Rattle.laws_written.specs.Values.{is_int32, is_number, is_time, is_sound}
use Rattle.laws_written.proofs.Lists.{each_some}
use Rattle.laws_written.proofs.Tests.{both, each_told}

-- ---- numbers

limited : (z : ℤ) → unsigned_abs z ≤ 1000000000000000000 → IsLimited z
limited (pos n) h = h
limited (negsuc n) h = omega (arith, h)

number_limited : (z : ℤ) → is_number z ≡ true → IsLimited z
number_limited z h = let small = leb-true (unsigned_abs z) (10 ^ 15) h in limited z (omega (arith, small))

time_limited : (z : ℤ) → is_time z ≡ true → IsLimited z
time_limited z h = let small = leb-true (unsigned_abs z) (10 ^ 18) h in limited z (omega (arith, small))

small_size : (n : ℤ) → int_le (negsuc (2 ^ 31 - 1)) n ≡ true → int_le n (pos (2 ^ 31 - 1)) ≡ true → unsigned_abs n ≤ 2 ^ 31
small_size (pos n) p q = grind (arith, ints)
small_size (negsuc n) p q = grind (arith, ints)

integer_limited : (n : ℤ) → is_int32 n ≡ true → IsLimited (in_millionths n)
integer_limited n h =
    let b = both (int_le (negsuc (2 ^ 31 - 1)) n) (int_le n (pos (2 ^ 31 - 1))) h in
    let small = small_size n b.0 b.1 in
    let e = unsigned_abs-mul n (pos 1000000) in
    limited (in_millionths n) (subst (λ k. k ≤ 1000000000000000000) (sym e) (omega (arith, small)))

all_integers : (ns : List ℤ) → list_all is_int32 ns ≡ true → AllByRecursion IsLimited (flat_map integer_run ns)
all_integers [] h = tt
all_integers (n ∷ ns) h = let b = both (is_int32 n) (list_all is_int32 ns) h in (integer_limited n b.0, all_integers ns b.1)

all_numbers : (zs : List ℤ) → list_all is_number zs ≡ true → AllByRecursion IsLimited zs
all_numbers zs h = each_told is_number IsLimited number_limited zs h

all_times : (zs : List ℤ) → list_all is_time zs ≡ true → AllByRecursion IsLimited zs
all_times zs h = each_told is_time IsLimited time_limited zs h

alone : (zs : List ℤ) → AllByRecursion IsLimited zs → AllByRecursion IsLimited (flat_map number_run zs)
alone [] h = tt
alone (z ∷ zs) h = (h.0, alone zs h.1)

-- ---- values

module _ (Inner : NodeText → Type 0) where
  numbers_spelled : (zs : List ℤ) → AllByRecursion IsLimited zs → IsSpellableValue Inner (number_list zs)
  numbers_spelled [] h = tt
  numbers_spelled (z ∷ zs) h = h

  truths_spelled : (bs : List Bool) → AllByRecursion (λ (b : Bool). Unit {0}) bs
  truths_spelled [] = tt
  truths_spelled (b ∷ bs) = (tt, truths_spelled bs)

  texts_spelled : (ts : List (List ℕ)) → list_all is_utf8 ts ≡ true → IsSpellableValue Inner (string_list ts)
  texts_spelled [] h = tt
  texts_spelled (t ∷ ts) h = each_told is_utf8 IsUtf8 IsUtf8-from_is_utf8 (t ∷ ts) h

  -- a value of a node that appears, with what is found of the nodes in it
  module _ (tree : Makes ℕ NodeText) (Q : ℕ → Type 0) (k : (seen : List Bool) (n : ℕ) → Q n → Inner (tree seen n).made) where
    pub value_spelled : (seen : List Bool) (v : Value) → is_sound v ≡ true → AllByRecursion Q (nodes_of v)
        → IsSpellableValue Inner (value_tree tree seen v).made
    value_spelled seen (value.SFBool b) s q = tt
    value_spelled seen (value.SFInt32 n) s q = (integer_limited n s, tt)
    value_spelled seen (value.SFFloat n) s q = (number_limited n s, tt)
    value_spelled seen (value.SFTime n) s q = (time_limited n s, tt)
    value_spelled seen (value.SFString t) s q = IsUtf8-from_is_utf8 t s
    value_spelled seen (value.SFVec2f v) s q = all_numbers (pair_run v) s
    value_spelled seen (value.SFVec3f v) s q = all_numbers (vector_run v) s
    value_spelled seen (value.SFColor c) s q = all_numbers (color_run c) s
    value_spelled seen (value.SFNode None) s q = tt
    value_spelled seen (value.SFNode (Some n)) s q = k seen n q.0
    value_spelled seen (value.MFBool []) s q = tt
    value_spelled seen (value.MFBool (b ∷ bs)) s q = truths_spelled (b ∷ bs)
    value_spelled seen (value.MFInt32 ns) s q = numbers_spelled (flat_map integer_run ns) (all_integers ns s)
    value_spelled seen (value.MFFloat ns) s q = numbers_spelled (flat_map number_run ns) (alone ns (all_numbers ns s))
    value_spelled seen (value.MFTime ns) s q = numbers_spelled (flat_map number_run ns) (alone ns (all_times ns s))
    value_spelled seen (value.MFString ts) s q = texts_spelled ts s
    value_spelled seen (value.MFVec2f vs) s q = numbers_spelled (flat_map pair_run vs) (all_numbers (flat_map pair_run vs) s)
    value_spelled seen (value.MFVec3f vs) s q = numbers_spelled (flat_map vector_run vs) (all_numbers (flat_map vector_run vs) s)
    value_spelled seen (value.MFColor cs) s q = numbers_spelled (flat_map color_run cs) (all_numbers (flat_map color_run cs) s)
    value_spelled seen (value.MFNode []) s q = tt
    value_spelled seen (value.MFNode (n ∷ ns)) s q = each_some tree Q Inner k seen n ns q
