-- A set of viewers is the bits of its number, and each version of snapshots has bits for some.
use Rattle.std.proofs.Common.{◌≡◌, ℕ, zero, suc, ◌+◌, ◌*◌, ◌/◌, ◌%◌, ◌^◌, ◌<◌, ◌≤◌, Bool, true, false, eqb, List, [], ◌∷◌, length, map, refl, sym, ap, subst, ◌∙◌, arith}
use Rattle.std.specs.Prelude.{◌≢◌}
use Rattle.std.specs.Int.{bit_at}
use Rattle.std.specs.List.{range_with_len}
use Rattle.std.proofs.Math.Nat.{pow-suc}
use Rattle.std.proofs.lemmas.Bool.{eqb-true, eqb-false, ltb-true}
use Rattle.std.proofs.lemmas.Nat.Bits.{bit_at_lowest, bit_at-suc}
use Rattle.std.proofs.lemmas.List.FromFn.{length-map-range_with_len}
use Rattle.x3d_values.specs.Ranges.{max_viewers}
use Rattle.snapshot_codec.specs.Parts.{viewer_count, viewer_set_codec}
use Rattle.snapshot_core.specs.declared.version.Version.{Version}
use Rattle.snapshot_core.specs.declared.version.Version.TheVariants.{One, Two, Three}
use Rattle.snapshot_core.specs.Opening.{viewers_of}
use Rattle.sensor_core.specs.Parts.{bit_of, number_of, over_of}

-- the bits of a number from a place on
bits : ℕ → ℕ → ℕ → List Bool
bits n from count = map (λ viewer. eqb (bit_at n viewer) 1) (range_with_len from count)

-- from the next place on they are those of the half
halved : (n from count : ℕ) → bits n (suc from) count ≡ bits (n / 2) from count
unfolding bits
halved n from zero = refl
halved n from (suc count) =
    let next : from + 1 ≡ suc from = omega arith in
    let after : suc from + 1 ≡ suc (suc from) = omega arith in
    rw (bit_at-suc n from, next, after) (ap (λ (bs : List Bool). eqb (bit_at (n / 2) from) 1 ∷ bs) (halved n (suc from) count))

bit_is : (n : ℕ) (b : Bool) → eqb (n % 2) 1 ≡ b → bit_of b ≡ n % 2
bit_is n true e = sym (eqb-true (n % 2) 1 e)
bit_is n false e = let other : n % 2 ≢ 1 = eqb-false (n % 2) 1 e in omega arith

-- the number of the bits of a number
numbered : (count n : ℕ) → n < 2 ^ count → number_of (bits n 0 count) ≡ n
unfolding bits
numbered zero n small = omega (arith, small)
numbered (suc count) n small =
    let half : n / 2 < 2 ^ count = omega (arith, pow-suc 2 count) in
    let others : number_of (bits n 1 count) ≡ n / 2 = ap number_of (halved n 0 count) ∙ numbered count (n / 2) half in
    let first : bit_of (eqb (bit_at n 0) 1) ≡ n % 2 = bit_is n _ (ap (λ k. eqb k 1) (sym (bit_at_lowest n))) in
    omega (arith, others, first)

lowest : (b : Bool) (n : ℕ) → eqb ((bit_of b + 2 * n) % 2) 1 ≡ b
lowest true n = let odd : (1 + 2 * n) % 2 ≡ 1 = omega arith in rw odd refl
lowest false n = let even : (0 + 2 * n) % 2 ≡ 0 = omega arith in rw even refl

half_of : (b : Bool) (n : ℕ) → (bit_of b + 2 * n) / 2 ≡ n
half_of true n = omega arith
half_of false n = omega arith

-- the bits of the number of a set
bits_back : (set : List Bool) → bits (number_of set) 0 (length set) ≡ set
unfolding bits
bits_back [] = refl
bits_back (b ∷ set) =
    let n = bit_of b + 2 * number_of set in
    let first : eqb (bit_at n 0) 1 ≡ b = ap (λ k. eqb k 1) (bit_at_lowest n) ∙ lowest b (number_of set) in
    let others : bits n 1 (length set) ≡ set = halved n 0 (length set) ∙ ap (λ k. bits k 0 (length set)) (half_of b (number_of set)) ∙ bits_back set in
    rw (first, others) refl

below : (set : List Bool) → number_of set < 2 ^ length set
below [] = omega arith
below (true ∷ set) = omega (arith, below set, pow-suc 2 (length set))
below (false ∷ set) = omega (arith, below set, pow-suc 2 (length set))

-- ---- of all viewers

pub number_back : (n : ℕ) → n < 2 ^ max_viewers → number_of (over_of n) ≡ n
unfolding over_of bits
number_back n small = numbered max_viewers n small

pub over_back : (set : List Bool) → length set ≡ max_viewers → over_of (number_of set) ≡ set
unfolding over_of bits
over_back set len = ap (λ k. bits (number_of set) 0 k) (sym len) ∙ bits_back set

pub over_length : (n : ℕ) → length (over_of n) ≡ max_viewers
unfolding over_of
over_length n = length-map-range_with_len (λ viewer. eqb (bit_at n viewer) 1) 0 max_viewers

pub number_small : (set : List Bool) → length set ≡ max_viewers → number_of set < 2 ^ max_viewers
number_small set len = subst (λ k. number_of set < 2 ^ k) len (below set)

-- ---- of the viewers that a version has bits for

-- they are viewers
pub few_viewers : (version : Version) → viewer_count (viewers_of version) ≤ max_viewers
few_viewers One = omega arith
few_viewers Two = omega arith
few_viewers Three = omega arith

pub few_bits : (version : Version) (n : ℕ) → (viewer_set_codec (viewers_of version)).fits n ≡ true → n < 2 ^ max_viewers
unfolding viewer_set_codec
few_bits One n fits = omega (arith, ltb-true n (2 ^ 16) fits)
few_bits Two n fits = ltb-true n (2 ^ 64) fits
few_bits Three n fits = ltb-true n (2 ^ 64) fits
