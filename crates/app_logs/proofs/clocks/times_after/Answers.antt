use Rattle.std.proofs.Common.{rules, FitsSigned, w64}
use Rattle.std.specs.Prelude.{int_lt}
use Rattle.std.proofs.lemmas.Int.{to_z-of_z}
use Rattle.x3d_values.specs.Stamp.{StampedView}
use Rattle.app_logs.proofs.Lines.{passed_more}
use Rattle.app_logs.proofs.clocks.times_after.Goals as goal

pub loop-input-preserved : goal.loop-input-preserved
loop-input-preserved c =
    let fits : FitsSigned w64 c.args.last = search rules in
    let same = to_z-of_z w64 c.args.last fits in
    rw same (passed_more (int_lt c.args.last) (λ (s : StampedView). s.time) c.args.inputs.now c.loop-input.input-index c.input-item.result
    c.loop-input.times.items _ c.loop-input-test.true c.input-item.is (rw same at c.loop-input.invariant) (rw same at c.in_ok-push_later.ensures))
