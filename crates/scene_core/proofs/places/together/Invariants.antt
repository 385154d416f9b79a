use Rattle.std.proofs.Common.{◌≡◌, take}
use Rattle.std.specs.Prelude.{min, slice_index_or}
use Rattle.std.specs.List.{sum_by}
use Rattle.scene_core.proofs.places.together.Given as goal

abbrev pub invariant-loop-n : goal.invariant-loop-n
invariant-loop-n l = l.sum ≡ min (sum_by (λ n. slice_index_or l.counts n 0) (take l.n-index l.nodes)) 65537
