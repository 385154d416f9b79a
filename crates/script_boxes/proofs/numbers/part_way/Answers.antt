use Rattle.std.proofs.Common.{◌∙◌, sym, subst, ap, ◌+ℤ◌, ◌-ℤ◌, ◌*ℤ◌, ◌^◌, ◌≤◌, unsigned_abs}
use Rattle.std.proofs.lemmas.Int.{to_z-of_z}
use Rattle.script_host.specs.Behaviour.{clamped, part_way}
use mir.Syntax.{w64, w128}
use mir.Val.{SFits}
use Rattle.script_boxes.proofs.WayLemmas.{wide, difference_fits, product_fits, sum_fits, quotient_small}
use Rattle.script_boxes.proofs.numbers.part_way.Goals as goal

pub overflow_mul-product : goal.overflow_mul-product
overflow_mul-product c =
    let s = c.ranges.fraction in
    let a = c.ranges.to in
    let b = c.ranges.from in
    let ws = wide c.args.fraction s in
    let wa = wide c.args.to a in
    let wb = wide c.args.from b in
    let d = difference_fits c.args.to c.args.from a b in
    simp to_z-of_z (product_fits c.args.fraction c.args.to c.args.from s a b)

pub overflow_add-from : goal.overflow_add-from
overflow_add-from c =
    let s = c.ranges.fraction in
    let a = c.ranges.to in
    let b = c.ranges.from in
    let ws = wide c.args.fraction s in
    let wa = wide c.args.to a in
    let wb = wide c.args.from b in
    let d = difference_fits c.args.to c.args.from a b in
    let p = product_fits c.args.fraction c.args.to c.args.from s a b in
    let q = simp to_z-of_z at c.div_euclid.ensures in
    let small : unsigned_abs c.div_euclid.result ≤ 2 ^ 108 =
    subst (λ z. unsigned_abs z ≤ 2 ^ 108) (sym q) (quotient_small (c.args.fraction *ℤ (c.args.to -ℤ c.args.from)) p) in
    let wq : SFits w128 c.div_euclid.result = record { sfits = c.div_euclid.type_inv } in
    let sum = sum_fits c.args.from c.div_euclid.result b small in
    simp to_z-of_z sum

pub returns : goal.returns
unfolding part_way
returns c =
    let s = c.ranges.fraction in
    let a = c.ranges.to in
    let b = c.ranges.from in
    let ws = wide c.args.fraction s in
    let wa = wide c.args.to a in
    let wb = wide c.args.from b in
    let d = difference_fits c.args.to c.args.from a b in
    let p = product_fits c.args.fraction c.args.to c.args.from s a b in
    let q = simp to_z-of_z at c.div_euclid.ensures in
    let small : unsigned_abs c.div_euclid.result ≤ 2 ^ 108 =
    subst (λ z. unsigned_abs z ≤ 2 ^ 108) (sym q) (quotient_small (c.args.fraction *ℤ (c.args.to -ℤ c.args.from)) p) in
    let wq : SFits w128 c.div_euclid.result = record { sfits = c.div_euclid.type_inv } in
    let sum = sum_fits c.args.from c.div_euclid.result b small in
    let e = simp to_z-of_z at c.clamped.ensures in
    let r : SFits w64 c.clamped.result = record { sfits = c.clamped.type_inv } in
    simp to_z-of_z (e ∙ ap (λ z. clamped (c.args.from +ℤ z)) q)
