-- A number between two numbers of a range is in the range.
use Rattle.std.proofs.Common.{◌≡◌, ◌≢◌, ◌⊎◌, ℕ, zero, suc, ◌-◌, ◌*◌, ◌/◌, ◌≤◌, ◌<◌, ℤ, pos, negsuc, ◌-ℤ◌, ◌*ℤ◌, ◌≤ℤ◌, ◌<ℤ◌, int_le, unsigned_abs, Bool, true, false, List, [], ◌∷◌, length, get_or, Some, None, not, ◌==◌, if◌then◌else◌, refl, sym, ap, subst, arith, inl, inr}
use Rattle.std.proofs.lemmas.Int.{ints}
use Rattle.std.proofs.lemmas.Bool.{le-leb, leb-true}
use Rattle.std.specs.Int.{int_div_euclid}
use Rattle.react_core.specs.declared.place.Between.{Between}
use Rattle.react_core.specs.Keys.{are_rising, rise_from, reached, have_steps, IsKeyAt}
use Rattle.react_core.specs.Interpolation.{part_way, place_of, place_among, key_at, last_reached}
use Rattle.react_core.proofs.KeyLemmas.{IsPassedAt, rise_from-above, reached-passed, IsKeyAt-passed}
use Rattle.react_core.proofs.PlaceLemmas.{is_between}
use Rattle.react_core.proofs.PartLemmas.{quotient_small, quotient_below, down_part}
use Rattle.byte_codec.proofs.Laws.{both, and_true}
use Rattle.snapshot_codec.specs.Values.{is_within}
use Rattle.laws_worlds.proofs.Rows.{some_is}

-- ---- part of a way

none_of : (n whole : ℕ) → 0 < whole → n * 0 / whole ≡ 0
none_of n whole p = grind arith

no_part : (z : ℤ) (whole : ℕ) → 0 < whole → int_div_euclid (z *ℤ pos 0) (pos whole) ≡ pos 0
no_part (pos n) whole p = ap (λ k. pos k) (none_of n whole p)
no_part (negsuc n) whole p =
    let z : suc n * 0 ≡ 0 = omega arith in
    let q : 0 / whole ≡ 0 = grind arith in
    rw z (ap (λ k. pos k) q)

up : (from to : ℤ) (part whole : ℕ) → from ≤ℤ to → part ≤ whole → 0 < whole → (from ≤ℤ part_way part whole from to) × (part_way part whole from to ≤ℤ to)
unfolding part_way
up from to part whole h p w =
    let d : ℕ = unsigned_abs (to -ℤ from) in
    let is : (to -ℤ from) ≡ pos d = omega (arith, ints) in
    let small : d * part / whole ≤ d = quotient_small d part whole p w in
    rw is (omega (arith, ints, small, h), omega (arith, ints, small, h))

down : (from to : ℤ) (part whole : ℕ) → to <ℤ from → part ≤ whole → 0 < whole → (to ≤ℤ part_way part whole from to) × (part_way part whole from to ≤ℤ from)
unfolding part_way
down from to zero whole h p w = rw (no_part (to -ℤ from) whole w) (omega (arith, ints, h), omega (arith, ints))
down from to (suc part) whole h p w =
    let d : ℕ = unsigned_abs (to -ℤ from) in
    let some : 0 < d = omega (arith, ints, h) in
    let n : d * suc part ≢ 0 = λ e. grind arith in
    let is = down_part (to -ℤ from) d (suc part) whole (omega (arith, ints, h)) refl n in
    let small = quotient_below d (suc part) whole p w n in
    rw is (omega (arith, ints, small, h), omega (arith, ints))

pub way_within : (limit part whole : ℕ) (from to : ℤ) → part ≤ whole → 0 < whole → is_within limit from ≡ true → is_within limit to ≡ true → is_within limit (part_way part whole from to) ≡ true
way_within limit part whole from to p w f t =
    let a = leb-true _ _ f in
    let b = leb-true _ _ t in
    le-leb _ _ (elim (int_cases from to) [
      | inl h ↦ (let u = up from to part whole h p w in omega (arith, ints, u.0, u.1, a, b))
      | inr h ↦ (let u = down from to part whole h p w in omega (arith, ints, u.0, u.1, a, b))
    ])
  where
    int_cases : (x y : ℤ) → (x ≤ℤ y) ⊎ (y <ℤ x)
    int_cases x y = cases (int_le x y) refl
      where
        cases : (b : Bool) → int_le x y ≡ b → (x ≤ℤ y) ⊎ (y <ℤ x)
        cases true e = inl (grind (arith, ints))
        cases false e = inr (grind (arith, ints))

-- ---- where a fraction lies among keys

-- the keys that a fraction has reached stand in front
abbrev Passed : List ℤ → ℤ → Type 0
Passed keys fraction = (n : ℕ) × IsPassedAt keys fraction n n

passed_more : (key : ℤ) (keys : List ℤ) (fraction : ℤ) → int_le key fraction ≡ true → Passed keys fraction → Passed (key ∷ keys) fraction
passed_more key keys fraction e r =
    let within : r.0 ≤ length keys = r.1.within in (
      suc r.0,
      record {
        in_order = omega arith;
        within = omega (arith, within);
        in_front = front r.0 r.1.in_front;
        behind = later r.0 r.1.behind;
      },
    )
  where
    front : (n : ℕ) → ((k : ℕ) → k < n → int_le (get_or keys k (pos 0)) fraction ≡ true) → (k : ℕ) → k < suc n → int_le (get_or (key ∷ keys) k (pos 0)) fraction ≡ true
    front n f zero l = e
    front n f (suc k) l = f k (omega (arith, l))

    later : (n : ℕ) → ((k : ℕ) → n ≤ k → k < length keys → int_le (get_or keys k (pos 0)) fraction ≡ false) → (k : ℕ) → suc n ≤ k → k < length (key ∷ keys) → int_le (get_or (key ∷ keys) k (pos 0)) fraction ≡ false
    later n f zero l m = absurd (omega (arith, l))
    later n f (suc k) l m = f k (omega (arith, l)) (omega (arith, m))

passed_none : (key : ℤ) (keys : List ℤ) (fraction : ℤ) → int_le key fraction ≡ false → rise_from key keys ≡ true → Passed (key ∷ keys) fraction
passed_none key keys fraction e rising = (
  0,
  record {
    in_order = omega arith;
    within = omega arith;
    in_front = λ k l. absurd (omega (arith, l));
    behind = above;
  },
)
  where
    above : (k : ℕ) → 0 ≤ k → k < length (key ∷ keys) → int_le (get_or (key ∷ keys) k (pos 0)) fraction ≡ false
    above zero l m = e
    above (suc k) l m = let r = rise_from-above key keys (pos 0) k rising (omega (arith, m)) in grind (arith, ints)

passed_step : (key : ℤ) (keys : List ℤ) (fraction : ℤ) → rise_from key keys ≡ true → Passed keys fraction → (b : Bool) → int_le key fraction ≡ b → Passed (key ∷ keys) fraction
passed_step key keys fraction rising r true e = passed_more key keys fraction e r
passed_step key keys fraction rising r false e = passed_none key keys fraction e rising

passed_from : (low : ℤ) (keys : List ℤ) (fraction : ℤ) → rise_from low keys ≡ true → Passed keys fraction
passed_from low [] fraction h = (0, record { in_order = omega arith; within = omega arith; in_front = λ k l. absurd (omega (arith, l)); behind = λ k l m. absurd (omega (arith, m)) })
passed_from low (key ∷ keys) fraction h =
    let b = both (int_le low key) (rise_from key keys) h in
    passed_step key keys fraction b.1 (passed_from key keys fraction b.1) (int_le key fraction) refl

passed : (keys : List ℤ) (fraction : ℤ) → are_rising keys ≡ true → Passed keys fraction
passed [] fraction h = passed_from (pos 0) [] fraction refl
passed (key ∷ keys) fraction h =
    let same : int_le key key ≡ true = grind (arith, ints) in
    passed_from key (key ∷ keys) fraction (and_true (int_le key key) (rise_from key keys) same h)

-- the last key that is reached
step_is : (keys : List ℤ) (fraction : ℤ) → have_steps keys ≡ true → IsKeyAt keys fraction (last_reached keys fraction)
step_is keys fraction h =
    let b = both _ _ h in
    let some : 0 < length keys = not_empty keys b.0 in
    let p = passed keys fraction b.1 in
    let same : reached keys fraction ≡ p.0 = reached-passed keys fraction p.0 p.0 p.1 (omega arith) in
    subst (λ (n : ℕ). IsKeyAt keys fraction (n - 1)) (sym same) (IsKeyAt-passed keys fraction p.0 some p.1)
  where
    not_empty : (xs : List ℤ) → not (length xs == 0) ≡ true → 0 < length xs
    not_empty [] e = absurd cc
    not_empty (x ∷ xs) e = omega arith

-- a part of a way, and a way of some length
pub record IsPart (place : Between) : Type 0 where
  pub short : place.part ≤ place.whole
  pub some : 0 < place.whole

among : (keys : List ℤ) (fraction : ℤ) → have_steps keys ≡ true → IsPart (place_among keys fraction)
among keys fraction h = first (int_le fraction (key_at keys 0)) refl
  where
    last : int_le fraction (key_at keys 0) ≡ false → (c : Bool) → int_le (key_at keys (length keys - 1)) fraction ≡ c → IsPart (place_among keys fraction)
    last e true f = rw (e, f) (record { short = omega arith; some = omega arith })
    last e false f =
        let b = is_between keys fraction (last_reached keys fraction) (step_is keys fraction h) e f in
        let above = b.above in
        let below = b.below in
        rw (e, f) (record { short = omega (arith, ints, above, below); some = omega (arith, ints, above, below) })

    first : (b : Bool) → int_le fraction (key_at keys 0) ≡ b → IsPart (place_among keys fraction)
    first true e = rw e (record { short = omega arith; some = omega arith })
    first false e = last e (int_le (key_at keys (length keys - 1)) fraction) refl

pub place_is : (keys : List ℤ) (fraction : ℤ) (place : Between) → place_of keys fraction ≡ Some place → IsPart place
unfolding place_of
place_is keys fraction place e = given (have_steps keys) refl e
  where
    given : (b : Bool) → have_steps keys ≡ b → (if b then Some (place_among keys fraction) else None) ≡ Some place → IsPart place
    given true h f = subst IsPart (some_is _ _ f) (among keys fraction h)
    given false h f = absurd cc
