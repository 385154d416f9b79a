use Rattle.std.proofs.Common.{take}
use Rattle.classic_part.specs.Index.{AreOf}
use Rattle.classic_part.proofs.lines.LineSet.of.Given as goal

abbrev pub invariant-loop-line : goal.invariant-loop-line
invariant-loop-line l = AreOf l.lines (take l.line-index l.refused)
