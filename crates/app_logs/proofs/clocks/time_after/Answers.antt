use Rattle.std.proofs.Common.{rules, ◌+ℤ◌, ◌∙◌, ℤ, ap, sym, subst, FitsSigned, w64}
use Rattle.std.proofs.lemmas.Int.{to_z-of_z}
use Rattle.app_logs.proofs.Beats.{sum_fits}
use Rattle.app_logs.proofs.clocks.time_after.Goals as goal

pub returns : goal.returns
returns c =
    let time_fits : FitsSigned w64 c.args.time = search rules in
    let micros_fits : FitsSigned w64 c.micros.result = search rules in
    let sum = ap (λ (z : ℤ). c.args.time +ℤ z) c.micros.ensures in
    let fits : FitsSigned w64 (c.args.time +ℤ c.micros.result) =
    subst (λ (z : ℤ). FitsSigned w64 z) (sym sum) (sum_fits c.args.time c.args.millis c.requires.low c.requires.high c.requires.few) in
    rw (to_z-of_z w64 c.args.time time_fits, to_z-of_z w64 c.micros.result micros_fits) (to_z-of_z w64 (c.args.time +ℤ c.micros.result) fits ∙ sum)
