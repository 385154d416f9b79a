-- Inputs that stand at their places in a window.
use Rattle.std.proofs.Common.{◌≡◌, ℕ, zero, suc, ◌+◌, ◌≤◌, List, [], ◌∷◌, ◌++◌, replicate, drop, ap, sym, ◌∙◌, arith}
use Rattle.std.specs.Prelude.{slice_get, slice_set, Option, Some, None}
use Rattle.std.proofs.lemmas.Option.{same_Some, none-some}
use Rattle.x3d_values.specs.Stamp.{StampedView}
use Rattle.share_rules.specs.Window.{window_places}
use Rattle.share_law.specs.Viewer.{empty_window, keep, keep_at}
use Rattle.share_core.specs.Ahead.{InPlace}
use Rattle.x3d_values.specs.Ranges.{max_inputs}

pub InPlace-none : (k n : ℕ) → InPlace n (replicate k None)
InPlace-none zero n = tt
InPlace-none (suc k) n = InPlace-none k (suc n)

pub InPlace-empty : (n : ℕ) → InPlace n empty_window
InPlace-empty n = InPlace-none window_places n

pub InPlace-drop : (ws : List (Option StampedView)) (n : ℕ) → InPlace n ws → InPlace n (slice_set ws 0 None)
InPlace-drop [] n h = tt
InPlace-drop (None ∷ ws) n h = h
InPlace-drop (Some x ∷ ws) n h = h.2

InPlace-push : (ws : List (Option StampedView)) (n : ℕ) → InPlace n ws → InPlace n (ws ++ None ∷ [])
InPlace-push [] n h = tt
InPlace-push (None ∷ ws) n h = InPlace-push ws (suc n) h
InPlace-push (Some x ∷ ws) n h = (h.0, h.1, InPlace-push ws (suc n) h.2)

pub InPlace-advance : (ws : List (Option StampedView)) (n : ℕ) → InPlace n ws → InPlace (suc n) (drop 1 ws ++ None ∷ [])
InPlace-advance [] n h = tt
InPlace-advance (None ∷ ws) n h = InPlace-push ws (suc n) h
InPlace-advance (Some x ∷ ws) n h = InPlace-push ws (suc n) h.2

InPlace-set : (ws : List (Option StampedView)) (n i : ℕ) (x : StampedView) → x.number ≡ n + i → x.number ≤ max_inputs → InPlace n ws → InPlace n (slice_set ws i (Some x))
InPlace-set [] n i x at most h = tt
InPlace-set (None ∷ ws) n zero x at most h = (omega (arith, at), omega (arith, at, most), h)
InPlace-set (Some y ∷ ws) n zero x at most h = (omega (arith, at), omega (arith, at, most), h.2)
InPlace-set (None ∷ ws) n (suc i) x at most h = InPlace-set ws (suc n) i x (omega (arith, at)) most h
InPlace-set (Some y ∷ ws) n (suc i) x at most h = (h.0, h.1, InPlace-set ws (suc n) i x (omega (arith, at)) most h.2)

InPlace-keep_at : (ws : List (Option StampedView)) (n i : ℕ) (x : StampedView) (o : Option (Option StampedView)) → x.number ≡ n + i → x.number ≤ max_inputs → InPlace n ws → InPlace n (keep_at ws i x o)
InPlace-keep_at ws n i x None at most h = h
InPlace-keep_at ws n i x (Some None) at most h = InPlace-set ws n i x at most h
InPlace-keep_at ws n i x (Some (Some y)) at most h = h

pub InPlace-keep : (ws : List (Option StampedView)) (n i : ℕ) (x : StampedView) → x.number ≡ n + i → x.number ≤ max_inputs → InPlace n ws → InPlace n (keep ws i x)
InPlace-keep ws n i x at most h = InPlace-keep_at ws n i x (slice_get ws i) at most h

-- the number of the next input
pub InPlace-front : (ws : List (Option StampedView)) (n : ℕ) (x : StampedView) → slice_get ws 0 ≡ Some (Some x) → InPlace n ws → (x.number ≡ n) × (n ≤ max_inputs)
InPlace-front [] n x e h = absurd (none-some (Some x) e)
InPlace-front (None ∷ ws) n x e h = absurd (none-some x (same_Some None (Some x) e))
InPlace-front (Some y ∷ ws) n x e h =
    let same : y ≡ x = same_Some y x (same_Some (Some y) (Some x) e) in
    (ap (λ (s : StampedView). s.number) (sym same) ∙ h.0, h.1)
