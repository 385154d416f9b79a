use Rattle.std.proofs.Common.{◌≡◌, ◌+◌, ◌≤◌, List, sym, subst, arith}
use Rattle.std.specs.Prelude.{Option}
use Rattle.std.proofs.lemmas.Bool.Decides.{nat_tests}
use Rattle.x3d_values.specs.Stamp.{StampedView}
use Rattle.cascade_core.specs.Held.{applied_of}
use Rattle.share_core.specs.Ahead.{InPlace}
use Rattle.share_core.proofs.Places.{InPlace-keep}
use Rattle.share_core.proofs.ahead.take_input.Goals as goal
use Rattle.x3d_values.specs.Ranges.{max_inputs}

pub apply_ready-requires-clause-place : goal.apply_ready-requires-clause-place
apply_ready-requires-clause-place g c =
    let next = applied_of c.args.stage.now.held + 1 in
    let place = c.in-Some.place in
    let most : c.args.input.number ≤ max_inputs = grind (arith, nat_tests, c.number-number.ensures.value, c.number-number.ensures.fits) in
    let at : c.args.input.number ≡ next + place = omega (arith, c.number-number.ensures.value, c.applied-applied.ensures, c.in-Some.ensures.some.0) in
    subst (λ (l : List (Option StampedView)). InPlace next l) (sym c.keep.ensures) (InPlace-keep c.args.window.now next place c.args.input at most c.requires.place)
