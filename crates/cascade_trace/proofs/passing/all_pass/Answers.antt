use Rattle.std.proofs.Common.{◌+◌, drop}
use Rattle.cascade_trace.proofs.Passed.{passed-next}
use Rattle.cascade_trace.proofs.passing.all_pass.Goals as goal

pub returns-in_default : goal.returns-in_default
returns-in_default g c =
    passed-next (g.T.TestsLines.passing c.args.test.now) c.args.entries.now c.loop-entry.entry-index _ _ _ _ _ _ c.loop-entry-test.true
    (rw (c.in_default.is) at (c.entry_passes.ensures (drop (c.loop-entry.entry-index + 1) c.args.entries.now))) c.loop-entry.invariant
