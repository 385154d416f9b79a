use Rattle.std.proofs.Common.{rules, ◌≡◌, ◌∙◌, ◌*◌, ◌+ℤ◌, pos, true, sym, FitsSigned, w64}
use Rattle.std.proofs.lemmas.Int.{to_z-of_z}
use Rattle.snapshot_codec.specs.Trace.{is_moment}
use Rattle.app_logs.specs.Clocks.{later_of}
use Rattle.app_logs.proofs.Beats.{beat_is}
use Rattle.app_logs.proofs.clocks.beat_time.Goals as goal

pub returns : goal.returns
returns c =
    let base_fits : FitsSigned w64 c.args.base = search rules in
    let last_fits : FitsSigned w64 c.args.last = search rules in
    let sum_fits : FitsSigned w64 c.time_after.result = search rules in
    let fits : FitsSigned w64 c.later_of.result = search rules in
    let base_in : is_moment c.args.base ≡ true = sym (rw (to_z-of_z w64 c.args.base base_fits) at c.in_range.ensures.value) ∙ c.if-not-in_range.false in
    let last_in : is_moment c.args.last ≡ true = sym (rw (to_z-of_z w64 c.args.last last_fits) at c.in_range-2.ensures.value) ∙ c.if-not-in_range-2.false in
    let sum : c.time_after.result ≡ c.args.base +ℤ pos (1000 * c.args.millis) = rw (to_z-of_z w64 c.args.base base_fits) at c.time_after.ensures in
    let later : c.later_of.result ≡ later_of c.time_after.result c.args.last =
    rw (to_z-of_z w64 c.time_after.result sum_fits, to_z-of_z w64 c.args.last last_fits) at c.later_of.ensures in
    rw (to_z-of_z w64 c.later_of.result fits) (beat_is c.args.base c.args.last c.time_after.result c.args.millis c.later_of.result c.if-millis-gt-MAX_MILLIS.false base_in last_in sum later)
