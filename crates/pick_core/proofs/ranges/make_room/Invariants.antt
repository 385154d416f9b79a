use Rattle.std.proofs.Common.{◌+◌, ◌-◌, length}
use Rattle.pick_core.specs.Ranges.{IsLonger}
use Rattle.pick_core.proofs.ranges.make_room.Given as goal

abbrev pub invariant-loop-firsts : goal.invariant-loop-firsts
invariant-loop-firsts l = IsLonger l.fn.firsts.items l.firsts.items

abbrev pub decreases-loop-firsts : goal.decreases-loop-firsts
decreases-loop-firsts l = l.node + 1 - length l.firsts.items
