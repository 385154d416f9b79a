-- What stands at each step of a loop.
use Rattle.std.proofs.Common.{◌≡◌, ◌∙◌, ap, sym, arith, ℕ, ◌+◌, ◌-◌, ◌<◌, ◌≤◌, List, length, drop, get_or}
use Rattle.std.specs.List.{fold, range_with_len}
use Rattle.std.proofs.lemmas.List.{at_drop_more, at_drop_all, length-map}
use Rattle.script_host.specs.Hosting.{SlotView}
use Rattle.script_running.specs.Acting.{kinds_of}
use Rattle.cascade_core.specs.Course.{Wiring}
use Rattle.cascade_core.specs.Sound.{IsSound}

-- ---- a fold over the elements that are left

module _ {S X : Type 0} (f : S → X → S) (xs : List X) (i : ℕ) where
  pub fold_next : (d : X) (before after : S) → i < length xs → after ≡ f before (get_or xs i d) → fold f after (drop (i + 1) xs) ≡ fold f before (drop i xs)
  fold_next d before after below is =
      ap (λ (s : S). fold f s (drop (i + 1) xs)) is ∙ sym (at_drop_more (λ (ys : List X). fold f before ys) xs i d below)

  pub fold_ended : (s : S) → length xs ≤ i → fold f s (drop i xs) ≡ s
  fold_ended s past = at_drop_all (λ (ys : List X). fold f s ys) xs i past

pub range_ended : {S : Type 0} (f : S → ℕ → S) (s : S) (k n : ℕ) → n ≤ k → fold f s (range_with_len k (n - k)) ≡ s
range_ended f s k n past =
    let none : n - k ≡ 0 = omega (arith, past) in ap (λ (m : ℕ). fold f s (range_with_len k m)) none

-- ---- scripts whose kinds stand

pub sound_still : (wiring : Wiring) (old new : List SlotView) → kinds_of new ≡ kinds_of old → IsSound wiring (kinds_of old) → IsSound wiring (kinds_of new)
sound_still wiring old new kinds sound = rw kinds sound

pub below_still : (old new : List SlotView) (k n : ℕ) → k < n → n ≡ length old → kinds_of new ≡ kinds_of old → k < length new
below_still old new k n below many kinds =
    let same : length new ≡ length old =
    sym (length-map new (λ (r : SlotView). r.kind)) ∙ ap length kinds ∙ length-map old (λ (r : SlotView). r.kind) in
    omega (arith, below, many, same)
