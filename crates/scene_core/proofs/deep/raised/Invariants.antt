use Rattle.std.proofs.Common.{◌≡◌, take}
use Rattle.std.specs.Prelude.{max, slice_index_or}
use Rattle.std.specs.List.{fold}
use Rattle.scene_core.proofs.deep.raised.Given as goal

abbrev pub invariant-loop-n : goal.invariant-loop-n
invariant-loop-n l =
    l.greatest ≡ fold (λ h n. max h (slice_index_or l.heights n 0)) l.height (take l.n-index l.n-items)
