use Rattle.std.proofs.Common.{◌≡◌, ◌-◌}
use Rattle.byte_codec.specs.Codec.{many_at}
use Rattle.snapshot_codec.specs.Reads.{behind}
use Rattle.snapshot_codec.specs.Trace.{entry_codec}
use Rattle.snapshot_codec.proofs.trace.entries_of.Given as goal

abbrev pub invariant-loop : goal.invariant-loop
invariant-loop g l =
    behind (g.T.TakesEntries.entries l.taker) (many_at (entry_codec l.numbers (g.O.Outputs.types l.outputs)) (l.count - l.counter) l.rest)
    ≡ behind (g.T.TakesEntries.entries l.fn.taker) (many_at (entry_codec l.numbers (g.O.Outputs.types l.outputs)) l.count l.bytes)
