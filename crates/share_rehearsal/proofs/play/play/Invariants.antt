use Rattle.std.proofs.Common.{take}
use Rattle.share_rehearsal.specs.Calls.{seen}
use Rattle.share_rehearsal.specs.Rehearsed.{IsPlayed}
use Rattle.share_rehearsal.proofs.play.play.Given as goal

abbrev pub invariant-loop-place : goal.invariant-loop-place
invariant-loop-place g l =
    IsPlayed (seen l.fn.nodes) (take l.place l.steps) l.fn.out.items l.out.items
    (seen l.nodes)
