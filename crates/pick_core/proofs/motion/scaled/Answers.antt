use Rattle.std.proofs.Common.{◌≡◌, ◌∙◌, ap, sym, subst, ◌-ℤ◌, ◌*ℤ◌, ◌^◌, ◌≤◌, unsigned_abs, pos}
use Rattle.std.specs.Int.{int_div_euclid}
use Rattle.std.proofs.lemmas.Int.{to_z-of_z}
use mir.Syntax.{w64, w128}
use mir.Val.{SFits, to_z}
use Rattle.pick_core.proofs.Moves.{wide, difference_fits, product_fits, quotient_small, unscaled}
use Rattle.pick_core.proofs.motion.scaled.Goals as goal

pub returns-then-scale-eq-ONE-clause-value : goal.returns-then-scale-eq-ONE-clause-value
returns-then-scale-eq-ONE-clause-value c =
    let s = c.ranges.scale in
    let a = c.ranges.at in
    let m = c.ranges.center in
    let wa = wide c.args.at a in
    let wm = wide c.args.center m in
    let d = difference_fits c.args.at c.args.center a m in
    let one : c.args.scale ≡ pos 1000000 = sym (to_z-of_z w64 c.args.scale s) ∙ ap (to_z w64) c.if-scale-eq-ONE.true in
    simp to_z-of_z (sym (ap (λ z. int_div_euclid (z *ℤ (c.args.at -ℤ c.args.center)) (pos 1000000)) one ∙ unscaled (c.args.at -ℤ c.args.center)))

pub overflow_mul-scale : goal.overflow_mul-scale
overflow_mul-scale c =
    let s = c.ranges.scale in
    let a = c.ranges.at in
    let m = c.ranges.center in
    let ws = wide c.args.scale s in
    let wa = wide c.args.at a in
    let wm = wide c.args.center m in
    let d = difference_fits c.args.at c.args.center a m in
    simp to_z-of_z (product_fits c.args.scale c.args.at c.args.center s a m)

pub returns : goal.returns
returns c =
    let s = c.ranges.scale in
    let a = c.ranges.at in
    let m = c.ranges.center in
    let ws = wide c.args.scale s in
    let wa = wide c.args.at a in
    let wm = wide c.args.center m in
    let d = difference_fits c.args.at c.args.center a m in
    let p = product_fits c.args.scale c.args.at c.args.center s a m in
    let r : SFits w128 c.millionth.result = record { sfits = c.millionth.type_inv } in
    let value = simp to_z-of_z at c.millionth.ensures in
    record {
      value = simp to_z-of_z value;
      fits = simp to_z-of_z (subst (λ z. unsigned_abs z ≤ 2 ^ 108) (sym value) (quotient_small (c.args.scale *ℤ (c.args.at -ℤ c.args.center)) p));
    }
