use Rattle.std.proofs.Common.{rules, ◌<◌, ◌≤◌, length, sym, subst}
use Rattle.std.specs.Prelude.{IfSome, Option}
use Rattle.share_rules.specs.declared.kept.SeatCount.{SeatCount}
use Rattle.share_pending.proofs.Offers.{within}
use Rattle.share_pending.proofs.showing.kept_of.Goals as goal

pub returns-clause-within : goal.returns-clause-within
returns-clause-within c =
    let kept = c.args.kept.now.items in
    let few : length kept ≤ 64 = search rules in
    subst (λ (o : Option SeatCount). IfSome o (λ x. c.args.who < 64)) (sym c.place_of.ensures) (within kept c.args.who 64 few)
