use Rattle.std.proofs.Common.{◌≡◌, ◌+◌, ◌++◌, ◌≤◌, length}
use Rattle.std.specs.Vec.Iter.{into_iter_items}
use Rattle.x3d_values.specs.Ranges.{max_viewers}
use Rattle.share_rehearsal.specs.Calls.{viewers_from}
use Rattle.share_rehearsal.specs.Loaded.{AreFresh}
use Rattle.share_rehearsal.proofs.rehearsal.viewers_of.Given as goal

abbrev pub invariant-loop-stage : goal.invariant-loop-stage
invariant-loop-stage g l =
    (l.viewers.items ++ viewers_from l.mark (length l.viewers.items) (into_iter_items l.stage-iterator) ≡ viewers_from l.mark 0 l.fn.stages.items)
    × AreFresh (into_iter_items l.stage-iterator)
    × (length l.viewers.items + length (into_iter_items l.stage-iterator) ≤ max_viewers)
