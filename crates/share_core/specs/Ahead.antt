-- A stage, and the window of the next inputs, which are applied in order.
use Rattle.std.specs.Prelude.{◌≡◌, ◌⊎◌, ◌≤◌, ◌<◌, ℕ, suc, ◌+◌, Bool, true, false, List, []}
use Rattle.std.specs.Prelude.{◌∷◌, ◌++◌, drop, slice_get, slice_set, int_lt, Option, None, Some}
use Rattle.std.specs.Prelude.{Result, Ok, Err}
use Rattle.x3d_values.specs.Ranges.{max_inputs}
use Rattle.x3d_values.specs.Stamp.{StampedView}
use Rattle.cascade_core.specs.Course.{Scripted}
use Rattle.cascade_core.specs.Held.{Held, Running, Spoiled}
use Rattle.share_law.specs.declared.fault.TakeFault.{TakeFault}
use Rattle.share_law.specs.declared.fault.TakeFault.TheVariants as take_fault
use Rattle.share_law.specs.declared.reply.Taken.{Taken}
use Rattle.share_law.specs.Machine.{Machine}
use Rattle.share_law.specs.Viewer.{drain, input_answer, refilled}

-- each input of the window is at its place; the first place is for number n
abbrev pub InPlace : (n : ℕ) → List (Option StampedView) → Type 0
InPlace n [] = Unit {0}
InPlace n (None ∷ rest) = InPlace (suc n) rest
InPlace n (Some x ∷ rest) = (x.number ≡ n) × (n ≤ max_inputs) × InPlace (suc n) rest

-- the input in the first place is applied if it is later than the last one, else dropped
abbrev pub IsNext : Machine Scripted → Scripted → List (Option StampedView) → Result Bool TakeFault
    → Held → List (Option StampedView) → Type 0
IsNext m w window (Ok false) held rest =
    (slice_get window 0 ≡ Some None) × (held ≡ Running w) × (rest ≡ window)
IsNext m w window (Ok true) held rest =
    (x : StampedView) × (slice_get window 0 ≡ Some (Some x)) × (int_lt (m.last w) x.time ≡ true)
    × (held ≡ Running (m.apply w x)) × (rest ≡ drop 1 window ++ None ∷ [])
IsNext m w window (Err fault) held rest =
    (x : StampedView) × (slice_get window 0 ≡ Some (Some x))
    × (((fault ≡ take_fault.TimeNotLater) × (int_lt (m.last w) x.time ≡ false)
    × (held ≡ Running w) × (rest ≡ slice_set window 0 None))
    ⊎ ((fault ≡ take_fault.Memory) × (int_lt (m.last w) x.time ≡ true)
    × (held ≡ Spoiled (m.applied w))))

-- The inputs at the front of the window are applied up to the first gap. Memory may be refused at
-- any of them.
abbrev pub IsDrained : Machine Scripted → Scripted → List (Option StampedView)
    → Result Taken TakeFault → Held → List (Option StampedView) → Type 0
IsDrained m w window result held rest =
    let d = drain m w window in
    ((result ≡ input_answer d) × (held ≡ Running d.state) × (rest ≡ refilled d.rest))
    ⊎ ((result ≡ Err take_fault.Memory)
    × ((j : ℕ) × (j < d.count) × (held ≡ Spoiled (m.applied w + j))))
