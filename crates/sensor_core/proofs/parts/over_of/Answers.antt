use Rattle.std.proofs.Common.{◌==◌, false, arith}
use Rattle.std.specs.Int.{bit_at}
use Rattle.std.proofs.lemmas.List.FromFn.{fill_by_all}
use Rattle.x3d_values.specs.Ranges.{max_viewers}
use Rattle.sensor_core.specs.Parts.{over_of}
use Rattle.sensor_core.proofs.parts.over_of.Goals as goal

pub returns : goal.returns
unfolding over_of
returns c =
    let kept = c.loop-viewer.invariant in
    fill_by_all (λ viewer. bit_at c.args.number viewer == 1) c.loop-viewer.set max_viewers false kept.size (λ k below. kept.filled k (omega (arith, below, c.loop-viewer-test.false)))
