-- Where a fraction lies among keys.
use Rattle.std.proofs.Common.{◌≡◌, ◌∙◌, sym, refl, ap, ℕ, zero, suc, ◌+◌, ◌-◌, ◌<◌, ◌≤◌, ℤ, ◌-ℤ◌, ◌≤ℤ◌, ◌<ℤ◌, int_le, unsigned_abs, Bool, true, false, ◌==◌, List, length, slice_get, if◌then◌else◌, eq-eqb, Some, inl, inr, arith}
use Rattle.std.proofs.lemmas.Bool.{cases_lt}
use Rattle.std.proofs.lemmas.Int.{ints, to_z-of_z}
use Rattle.std.proofs.lemmas.Option.{cond_some, slice_get-map}
use Rattle.std.proofs.lemmas.List.{length-map}
use Rattle.std.specs.Option.{option_map, option_and_then}
use Rattle.react_core.specs.declared.place.Between.{Between}
use Rattle.react_core.specs.Keys.{have_steps, step_of, reached, IsKeyAt}
use Rattle.react_core.specs.Interpolation.{key_at, last_reached, place_of, after_item, between, mixed}

pub step_of-some : (keys : List ℤ) (fraction : ℤ) (step : ℕ) → Some step ≡ step_of keys fraction → (have_steps keys ≡ true) × (last_reached keys fraction ≡ step)
unfolding step_of
step_of-some keys fraction step e = cond_some (have_steps keys) (reached keys fraction - 1) step (sym e)

not_last : (keys : List ℤ) (fraction : ℤ) (step : ℕ) → IsKeyAt keys fraction step → key_at keys 0 <ℤ fraction → fraction <ℤ key_at keys (length keys - 1) → step ≡ length keys - 1 → ⊥
not_last keys fraction zero s low high e = let same = ap (key_at keys) e in omega (arith, ints)
not_last keys fraction (suc n) s low high e =
    let same = ap (key_at keys) e in
    let r = s.is_reached (omega arith) in
    omega (arith, ints)

-- between two keys
pub record IsBetween (keys : List ℤ) (fraction : ℤ) (step : ℕ) : Type 0 where
  pub within : step + 1 < length keys
  pub above : key_at keys step ≤ℤ fraction
  pub below : fraction <ℤ key_at keys (step + 1)

key_reached : (keys : List ℤ) (fraction : ℤ) (step : ℕ) → IsKeyAt keys fraction step → key_at keys 0 <ℤ fraction → key_at keys step ≤ℤ fraction
key_reached keys fraction zero s low = omega (arith, ints)
key_reached keys fraction (suc n) s low = s.is_reached (omega arith)

step_within : (keys : List ℤ) (fraction : ℤ) (step : ℕ) → IsKeyAt keys fraction step → key_at keys 0 <ℤ fraction → fraction <ℤ key_at keys (length keys - 1) → step + 1 < length keys
step_within keys fraction step s low high =
    let b = s.below in
    elim (cases_lt (step + 1) (length keys)) [ inl h ↦ h | inr h ↦ absurd (not_last keys fraction step s low high (omega arith)) ]

IsBetween-step : (keys : List ℤ) (fraction : ℤ) (step : ℕ) → IsKeyAt keys fraction step → key_at keys 0 <ℤ fraction → fraction <ℤ key_at keys (length keys - 1) → IsBetween keys fraction step
IsBetween-step keys fraction step s low high =
    let w = step_within keys fraction step s low high in
    record { within = w; above = key_reached keys fraction step s low; below = s.is_last (step + 1) (omega arith) w }

-- where the fraction is above the first key and below the last one
pub is_between : (keys : List ℤ) (fraction : ℤ) (step : ℕ) → IsKeyAt keys fraction step → int_le fraction (key_at keys 0) ≡ false → int_le (key_at keys (length keys - 1)) fraction ≡ false → IsBetween keys fraction step
is_between keys fraction step s low high = IsBetween-step keys fraction step s (grind (arith, ints)) (grind (arith, ints))

pub part_within : (keys : List ℤ) (fraction : ℤ) (step part whole : ℕ) → IsBetween keys fraction step → part ≡ unsigned_abs (fraction -ℤ key_at keys step) → whole ≡ unsigned_abs (key_at keys (step + 1) -ℤ key_at keys step) → part ≤ whole
part_within keys fraction step part whole b p w = let above = b.above in let below = b.below in omega (arith, ints)

pub some_whole : (keys : List ℤ) (fraction : ℤ) (step whole : ℕ) → IsBetween keys fraction step → whole ≡ unsigned_abs (key_at keys (step + 1) -ℤ key_at keys step) → 0 < whole
some_whole keys fraction step whole b w = let above = b.above in let below = b.below in omega (arith, ints)

if-true : {X : Type 0} (b : Bool) (x y : X) → b ≡ true → (if b then x else y) ≡ x
if-true true x y e = refl
if-true false x y e = cc

if-false : {X : Type 0} (b : Bool) (x y : X) → b ≡ false → (if b then x else y) ≡ y
if-false true x y e = cc
if-false false x y e = refl

abbrev pub place_from : ℕ → ℕ → ℕ → Between
place_from step part whole = record { from = step; to = step + 1; part = part; whole = whole }

after-reached : (keys : List ℤ) (fraction : ℤ) → ℕ → Between
after-reached keys fraction step = after_item step (key_at keys step) (key_at keys (step + 1)) fraction

pub place_of-after : (keys : List ℤ) (fraction : ℤ) (step : ℕ) → Some step ≡ step_of keys fraction → int_le fraction (key_at keys 0) ≡ false → int_le (key_at keys (length keys - 1)) fraction ≡ false → place_of keys fraction ≡ Some (after_item step (key_at keys step) (key_at keys (step + 1)) fraction)
unfolding place_of after-reached
place_of-after keys fraction step e first last =
    let s = step_of-some keys fraction step e in
    if-true (have_steps keys) _ _ s.0 ∙ ap Some (if-false (int_le fraction (key_at keys 0)) _ _ first ∙ (if-false (int_le (key_at keys (length keys - 1)) fraction) _ _ last ∙ ap (after-reached keys fraction) s.1))

pub place_of-parts : (keys : List ℤ) (fraction : ℤ) (step part whole : ℕ) → place_of keys fraction ≡ Some (after_item step (key_at keys step) (key_at keys (step + 1)) fraction) → part ≡ unsigned_abs (fraction -ℤ key_at keys step) → whole ≡ unsigned_abs (key_at keys (step + 1) -ℤ key_at keys step) → Some (place_from step part whole) ≡ place_of keys fraction
place_of-parts keys fraction step part whole e p w =
    ap (λ n. Some (place_from step n whole)) p ∙ (ap (λ n. Some (place_from step (unsigned_abs (fraction -ℤ key_at keys step)) n)) w ∙ sym e)

pub between-some : {X : Type 0} (way : Between → X → X → X) (keys : List ℤ) (values : List X) (fraction : ℤ) (place : Between) (from to : X) → length values ≡ length keys → Some place ≡ place_of keys fraction → Some from ≡ slice_get values place.from → Some to ≡ slice_get values place.to → between way keys values fraction ≡ Some (way place from to)
unfolding between
between-some way keys values fraction place from to e p f t =
    if-true (length values == length keys) _ _ (eq-eqb _ _ e) ∙ (ap (option_and_then (mixed way values)) (sym p) ∙ (ap (option_and_then (λ one. option_map (λ other. way place one other) (slice_get values place.to))) (sym f) ∙ ap (option_map (λ other. way place from other)) (sym t)))

-- a signed number that was handed on is the number, among values of one type
pub ruleset among = (to_z-of_z, length-map, slice_get-map)
