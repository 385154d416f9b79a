use Rattle.std.proofs.Common.{◌≡◌, ◌++◌, take}
use Rattle.share_rehearsal.specs.Log.{endings_from}
use Rattle.share_rehearsal.proofs.ending.push_endings.Given as goal

abbrev pub invariant-loop-number : goal.invariant-loop-number
invariant-loop-number g l = l.out.items ≡ l.fn.out.items ++ endings_from 0 (take l.number l.viewers)
