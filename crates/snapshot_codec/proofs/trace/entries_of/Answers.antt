use Rattle.std.proofs.lemmas.Result.{err_from_is_err_and}
use Rattle.byte_codec.specs.Codec.{many_at}
use Rattle.snapshot_codec.specs.Reads.{behind}
use Rattle.snapshot_codec.specs.Trace.{entry_codec}
use Rattle.snapshot_codec.proofs.Loops.{goes_on, ends, is_done}
use Rattle.snapshot_codec.proofs.trace.entries_of.Goals as goal

pub returns-in_err-entry : goal.returns-in_err-entry
returns-in_err-entry g c =
    let p = err_from_is_err_and c.from_residual.result c.from_residual.ensures.1 in
    rw (p.1, p.2) (ends (entry_codec c.args.numbers (g.O.Outputs.types c.args.outputs.now)) _ (g.T.TakesEntries.entries c.loop.taker) c.args.count c.loop.counter c.loop.rest.now (behind (g.T.TakesEntries.entries c.args.taker.now) (many_at (entry_codec c.args.numbers (g.O.Outputs.types c.args.outputs.now)) c.args.count c.args.bytes.now)) c.loop-test.true c.in_err-entry.ensures c.loop.invariant)

pub loop-preserved : goal.loop-preserved
loop-preserved g c =
    rw c.in_ok-take_entry.ensures (goes_on (entry_codec c.args.numbers (g.O.Outputs.types c.args.outputs.now)) (g.T.TakesEntries.entries c.loop.taker) c.args.count c.loop.counter c.loop.rest.now c.in_ok-entry.entry c.in_ok-entry.after.now (behind (g.T.TakesEntries.entries c.args.taker.now) (many_at (entry_codec c.args.numbers (g.O.Outputs.types c.args.outputs.now)) c.args.count c.args.bytes.now)) c.loop-test.true c.in_ok-entry.ensures c.loop.invariant)

pub returns : goal.returns
returns g c = is_done (entry_codec c.args.numbers (g.O.Outputs.types c.args.outputs.now)) (g.T.TakesEntries.entries c.loop.taker) c.args.count c.loop.counter c.loop.rest.now (behind (g.T.TakesEntries.entries c.args.taker.now) (many_at (entry_codec c.args.numbers (g.O.Outputs.types c.args.outputs.now)) c.args.count c.args.bytes.now)) c.loop-test.false c.loop.invariant
