use Rattle.std.proofs.Common.{◌≡◌, ℕ, true, take}
use Rattle.pick_core.specs.Ranges.{HasRow}
use Rattle.pick_core.specs.Sites.{touches}
use Rattle.pick_core.proofs.renewal.add_trail.Given as goal

abbrev pub invariant-loop-place : goal.invariant-loop-place
invariant-loop-place l = record {
  added : (n : ℕ) → touches n (take l.place-index l.trail) ≡ true → HasRow l.ranges n l.at;
  kept : (n k : ℕ) → HasRow l.fn.ranges n k → HasRow l.ranges n k;
}
