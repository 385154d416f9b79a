use Rattle.std.proofs.Common.{refl, length}
use Rattle.std.proofs.lemmas.Option.{slice_get_read}
use Rattle.script_running.proofs.Numbers.{noted_one}
use Rattle.script_running.proofs.runs.Runs.new.Goals as goal

pub loop-k-preserved : goal.loop-k-preserved
loop-k-preserved c =
    noted_one c.deref-run-items.result.now c.loop-k.numbers.items c.note.new.numbers.items c.loop-k.k c.run-item.result
    (slice_get_read c.deref-run-items.result.now (length c.deref-run-items.result.now) c.loop-k.k c.run-item.result refl c.loop-k-test.true c.run-item.is)
    c.in_ok-note.ensures c.loop-k.invariant
