use Rattle.std.proofs.Common.{◌+◌, ◌<◌, ◌++◌, ◌∷◌, [], ap, sym, ◌∙◌, length, subst}
use Rattle.share_rules.specs.Offers.{most_waiting}
use Rattle.share_core.specs.Steps.{point_aimed}
use Rattle.share_core.specs.Waiting.{Offers}
use Rattle.share_core.proofs.Queues.{offers-pushed}
use Rattle.share_core.proofs.waiting.Waiting.push.Goals as goal

pub returns : goal.returns
returns c =
    let i = c.self.inside in
    offers-pushed i.who i.boot i.covered i.made i.places c.args.aim c.self.invariant.1 c.self.invariant.2 c.self.invariant.3
    (subst (λ (o : Offers). length o.waiting < most_waiting) (sym c.self.view_is) c.requires.room)
    ∙ ap (λ (o : Offers). let z : Offers = record { who = o.who; boot = o.boot; made = o.made + 1; waiting = o.waiting ++ point_aimed c.args.aim ∷ [] } in z) c.self.view_is
