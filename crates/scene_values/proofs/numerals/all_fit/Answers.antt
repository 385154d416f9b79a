use Rattle.std.proofs.Common.{rules, ◌≡◌, true, false, get_or, pos, to_z, of_z, w64}
use Rattle.scene_values.specs.Quantities.{fits}
use Rattle.scene_values.proofs.Groups.{fails_here, passes_here}
use Rattle.scene_values.proofs.numerals.all_fit.Goals as goal

pub returns-then-not-fits : goal.returns-then-not-fits
returns-then-not-fits c =
    let x = to_z w64 (of_z w64 (get_or c.args.numbers.now c.loop-number.number-index (pos 0))) in
    let fails : fits c.args.quantity x ≡ false = search rules in
    fails_here (fits c.args.quantity) _ c.args.numbers.now c.loop-number.number-index x c.loop-number-test.true
    (search rules) c.loop-number.invariant fails

pub loop-number-preserved : goal.loop-number-preserved
loop-number-preserved c =
    let x = to_z w64 (of_z w64 (get_or c.args.numbers.now c.loop-number.number-index (pos 0))) in
    let passes : fits c.args.quantity x ≡ true = search rules in
    passes_here (fits c.args.quantity) _ c.args.numbers.now c.loop-number.number-index x c.loop-number-test.true
    (search rules) c.loop-number.invariant passes
