use Rattle.std.proofs.Common.{drop}
use Rattle.cascade_trace.specs.Bits.{MarksOnly}
use Rattle.cascade_trace.proofs.sent.unmark.Given as goal

-- only the outputs that are left are marked
abbrev pub invariant-loop-end : goal.invariant-loop-end
invariant-loop-end l = MarksOnly l.starts l.bits (drop l.end-index l.ends)
