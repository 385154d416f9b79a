use Rattle.std.proofs.Common.{◌≡◌, ◌*◌, ◌<◌, ◌≤◌, ℕ, length, sum, take}
use Rattle.std.specs.Prelude.{slice_index}
use Rattle.route_core.proofs.outputs.firsts_of.Given as goal

abbrev pub invariant-loop-count : goal.invariant-loop-count
invariant-loop-count l =
    (length l.firsts.items ≡ l.count-index) × (l.first ≡ sum (take l.count-index l.field_counts)) × (l.first ≤ 65536 * l.count-index)
    × ((n : ℕ) → n < l.count-index → slice_index l.firsts.items n ≡ sum (take n l.field_counts))
