use Rattle.std.proofs.Common.{◌∙◌, sym, ap, subst, ◌≤ℤ◌, ◌<ℤ◌, ◌-ℤ◌, ◌+ℤ◌, pos, negsuc, arith}
use Rattle.std.proofs.lemmas.Int.{ints, to_z-of_z}
use mir.Syntax.{w64}
use mir.Val.{SFits}
use Rattle.react_core.specs.Interpolation.{part_way}
use Rattle.react_core.proofs.PartLemmas.{quotient_small, is_up_within, quotient_below, is_down_within, up_part, down_part}
use Rattle.react_core.proofs.part.part_way.Goals as goal

pub moved_up-requires : goal.moved_up-requires
moved_up-requires c =
    let f = c.ranges.from in
    let t = c.ranges.to in
    let e = simp to_z-of_z at c.abs_diff.ensures in
    let h : c.args.from ≤ℤ c.args.to = omega (arith, ints) in
    simp to_z-of_z (subst (λ q. (c.args.from +ℤ pos q) ≤ℤ c.args.to) (sym c.divided.ensures) (is_up_within c.args.from c.args.to c.args.part c.args.whole c.abs_diff.result h e c.requires.is_part c.requires.is_whole))

pub returns-else-product-eq0 : goal.returns-else-product-eq0
unfolding part_way
returns-else-product-eq0 c =
    let f = c.ranges.from in
    let t = c.ranges.to in
    let e = simp to_z-of_z at c.abs_diff.ensures in
    let h : (c.args.to -ℤ c.args.from) <ℤ pos 0 = omega (arith, ints) in
    let down = down_part (c.args.to -ℤ c.args.from) c.abs_diff.result c.args.part c.args.whole h e c.if-product-eq0.false in
    let moved = simp to_z-of_z at c.moved_down.ensures in
    let r : SFits w64 c.moved_down.result = record { sfits = c.moved_down.type_inv } in
    simp to_z-of_z (moved ∙ (ap (λ q. c.args.from +ℤ negsuc q) c.divided-else-product-eq0.ensures ∙ ap (λ z. c.args.from +ℤ z) (sym down)))

pub moved_down-requires : goal.moved_down-requires
moved_down-requires c =
    let f = c.ranges.from in
    let t = c.ranges.to in
    let e = simp to_z-of_z at c.abs_diff.ensures in
    let h : (c.args.to -ℤ c.args.from) <ℤ pos 0 = omega (arith, ints) in
    simp to_z-of_z (subst (λ q. c.args.to ≤ℤ (c.args.from +ℤ negsuc q)) (sym c.divided-else-product-eq0.ensures) (is_down_within c.args.from c.args.to c.args.part c.args.whole c.abs_diff.result h e c.requires.is_part c.requires.is_whole c.if-product-eq0.false))

pub returns-then-from-to : goal.returns-then-from-to
unfolding part_way
returns-then-from-to c =
    let f = c.ranges.from in
    let t = c.ranges.to in
    let e = simp to_z-of_z at c.abs_diff.ensures in
    let h : c.args.from ≤ℤ c.args.to = omega (arith, ints) in
    let moved = simp to_z-of_z at c.moved_up.ensures in
    let r : SFits w64 c.moved_up.result = record { sfits = c.moved_up.type_inv } in
    simp to_z-of_z (moved ∙ (ap (λ q. c.args.from +ℤ pos q) c.divided.ensures ∙ ap (λ z. c.args.from +ℤ z) (sym (up_part c.args.from c.args.to c.abs_diff.result c.args.part c.args.whole h e))))

pub divided-requires-clause-fits : goal.divided-requires-clause-fits
divided-requires-clause-fits c =
    let small = quotient_small c.abs_diff.result c.args.part c.args.whole c.requires.is_part c.requires.is_whole in
    omega arith

pub divided-requires-else-product-eq0-clause-fits : goal.divided-requires-else-product-eq0-clause-fits
divided-requires-else-product-eq0-clause-fits c =
    let below = quotient_below c.abs_diff.result c.args.part c.args.whole c.requires.is_part c.requires.is_whole c.if-product-eq0.false in
    omega arith
