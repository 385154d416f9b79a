use Rattle.std.proofs.Common.{rules, ◌≡◌}
use Rattle.std.specs.Prelude.{slice_get, None, Some}
use Rattle.share_welcomes.proofs.Links.{first_of, none_left}
use Rattle.share_welcomes.proofs.learned.first_chain.Goals as goal

pub returns-in-Some : goal.returns-in-Some
returns-in-Some c = λ chain es are is.
    let got : slice_get c.args.links.now 0 ≡ Some c.in-Some.known.now = search rules in
    first_of chain es c.args.links.now c.in-Some.known.now are got

pub returns-in-None : goal.returns-in-None
returns-in-None c = λ chain es are is.
    let none : slice_get c.args.links.now 0 ≡ None = search rules in
    none_left chain c.args.next es c.args.links.now are none is
