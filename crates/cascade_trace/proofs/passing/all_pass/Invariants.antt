use Rattle.std.proofs.Common.{◌≡◌, drop, pos}
use Rattle.std.specs.List.{list_all}
use Rattle.cascade_trace.specs.Trace.{lines_of}
use Rattle.cascade_trace.proofs.passing.all_pass.Given as goal

-- the lines that are left decide
abbrev pub invariant-loop-entry : goal.invariant-loop-entry
invariant-loop-entry g l =
    list_all (g.T.TestsLines.passing l.test) (lines_of (drop l.entry-index l.entries) l.moment.input l.moment.time l.left)
    ≡ list_all (g.T.TestsLines.passing l.test) (lines_of l.entries 0 (pos 0) l.values)
