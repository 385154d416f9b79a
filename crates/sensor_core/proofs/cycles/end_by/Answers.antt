use Rattle.std.proofs.Common.{rules, ◌∙◌, ap, pos, ◌+ℤ◌, ◌*◌, ◌+◌, int_le, unsigned_abs, Some, None, if◌then◌else◌, arith}
use Rattle.std.proofs.lemmas.Int.{ints, to_z-of_z}
use Rattle.std.specs.Option.{option_map}
use mir.Syntax.{w64}
use mir.Val.{SFits}
use Rattle.sensor_core.proofs.CycleLemmas.{ended}
use Rattle.sensor_core.proofs.cycles.end_by.Goals as goal

pub returns-in_err-length-clause-value : goal.returns-in_err-length-clause-value
returns-in_err-length-clause-value c =
    let s = c.ranges.start in
    let i = c.ranges.interval in
    let t = c.ranges.t in
    let e : SFits w64 c.since.result = search rules in
    let since = simp to_z-of_z at c.since.ensures.value in
    let value = simp to_z-of_z at c.in_err-length.ensures.value in
    let end = ended c.args.start c.args.interval c.args.t c.args.cycle c.requires.cycles.some in
    c.from_residual.ensures ∙ (ap (option_map (λ length. c.args.start +ℤ length)) (value ∙ ap (λ z. if int_le (pos ((c.args.cycle + 1) * unsigned_abs c.args.interval)) z then Some (pos ((c.args.cycle + 1) * unsigned_abs c.args.interval)) else None) since) ∙ end)

pub returns-clause-value : goal.returns-clause-value
returns-clause-value c =
    let s = c.ranges.start in
    let i = c.ranges.interval in
    let t = c.ranges.t in
    let e : SFits w64 c.since.result = search rules in
    let since = simp to_z-of_z at c.since.ensures.value in
    let value = simp to_z-of_z at c.in_ok-length.ensures.value in
    let end = ended c.args.start c.args.interval c.args.t c.args.cycle c.requires.cycles.some in
    let l : SFits w64 c.in_ok-length.length = search rules in
    let w : SFits w64 (c.args.start +ℤ c.in_ok-length.length) = omega (arith, ints, c.in_ok-length.ensures.some, c.in_ok-length.ensures.within) in
    simp to_z-of_z (ap (option_map (λ length. c.args.start +ℤ length)) (value ∙ ap (λ z. if int_le (pos ((c.args.cycle + 1) * unsigned_abs c.args.interval)) z then Some (pos ((c.args.cycle + 1) * unsigned_abs c.args.interval)) else None) since) ∙ end)
