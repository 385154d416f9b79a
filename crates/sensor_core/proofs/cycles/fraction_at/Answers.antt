use Rattle.std.proofs.Common.{rules, ◌∙◌, sym, ap, ◌≤ℤ◌, pos, ◌*◌, ◌/◌, unsigned_abs, arith}
use Rattle.std.proofs.lemmas.Int.{ints, to_z-of_z}
use Rattle.std.specs.Int.{int_rem_euclid}
use mir.Syntax.{w64}
use mir.Val.{SFits}
use Rattle.sensor_core.proofs.CycleLemmas.{fraction_at-early, fraction_at-inside}
use Rattle.sensor_core.proofs.cycles.fraction_at.Goals as goal

pub returns-then-x-start : goal.returns-then-x-start
returns-then-x-start c =
    let s = c.ranges.start in
    let i = c.ranges.interval in
    let x = c.ranges.x in
    let e : SFits w64 c.since.result = search rules in
    let r : SFits w64 c.rem_euclid-rest.result = search rules in
    let p : SFits w64 c.millionths-part.result = search rules in
    let since = simp to_z-of_z at c.since.ensures.value in
    let rest = simp to_z-of_z at c.rem_euclid-rest.ensures.value in
    let part = simp to_z-of_z at c.millionths-part.ensures in
    let early : c.args.x ≤ℤ c.args.start = omega (arith, ints) in
    let is = fraction_at-early c.args.start c.args.interval c.args.x early in
    simp to_z-of_z (part ∙ (ap (λ left. pos (unsigned_abs left * 1000000 / unsigned_abs c.args.interval)) (rest ∙ ap (λ z. int_rem_euclid z c.args.interval) since) ∙ sym is))

pub returns-else-rest-eq0 : goal.returns-else-rest-eq0
returns-else-rest-eq0 c =
    let s = c.ranges.start in
    let i = c.ranges.interval in
    let x = c.ranges.x in
    let e : SFits w64 c.since.result = search rules in
    let r : SFits w64 c.rem_euclid-rest.result = search rules in
    let p : SFits w64 c.millionths-part.result = search rules in
    let since = simp to_z-of_z at c.since.ensures.value in
    let rest = simp to_z-of_z at c.rem_euclid-rest.ensures.value in
    let left = rest ∙ ap (λ z. int_rem_euclid z c.args.interval) since in
    let part = simp to_z-of_z at c.millionths-part.ensures in
    let some = simp to_z-of_z at c.if-rest-eq0.false in
    let is = fraction_at-inside c.args.start c.args.interval c.args.x (λ none. some (ap unsigned_abs left ∙ none)) in
    simp to_z-of_z (part ∙ (ap (λ left. pos (unsigned_abs left * 1000000 / unsigned_abs c.args.interval)) (rest ∙ ap (λ z. int_rem_euclid z c.args.interval) since) ∙ sym is))
