use Rattle.std.proofs.Common.{rules, get_or, pos, to_z, of_z, w64}
use Rattle.scene_values.specs.Quantities.{is_integer, whole}
use Rattle.scene_values.proofs.Groups.{mapped_grow, rest_holds, holds_here}
use Rattle.scene_values.proofs.grouping.wholes.Goals as goal

pub loop-number-preserved : goal.loop-number-preserved
loop-number-preserved c = record {
  so_far = mapped_grow whole _ _ _ c.args.numbers.now c.loop-number.number-index _ c.loop-number-test.true (search rules) c.loop-number.invariant.so_far c.in_ok-push.ensures.items;
  fit = rest_holds is_integer c.args.numbers.now c.loop-number.number-index c.loop-number-test.true c.loop-number.invariant.fit;
}

pub whole-requires : goal.whole-requires
whole-requires c =
    let x = to_z w64 (of_z w64 (get_or c.args.numbers.now c.loop-number.number-index (pos 0))) in
    holds_here is_integer c.args.numbers.now c.loop-number.number-index x c.loop-number-test.true (search rules)
    c.loop-number.invariant.fit
