use Rattle.std.proofs.Common.{rules, FitsSigned, w64}
use Rattle.std.proofs.lemmas.Int.{to_z-of_z}
use Rattle.share_logged.specs.Following.{PartsMake}
use Rattle.share_logged.proofs.Parts.{of-made}
use Rattle.share_logged.proofs.following.follow.Goals as goal

pub returns-clause-log : goal.returns-clause-log
returns-clause-log c = λ viewers known is.
    let made : PartsMake c.args.hosting.part c.args.entries.now c.make_all.new.host.part = search rules in
    of-made viewers known c.args.entries.now c.args.hosting.part c.make_all.new.host.part is made

pub invariant_of-result : goal.invariant_of-result
invariant_of-result c =
    let fits : FitsSigned w64 c.in_ok-newest.newest = search rules in
    rw (to_z-of_z w64 c.in_ok-newest.newest fits) (c.in_ok-newest.ensures.last, c.in_ok-newest.ensures.from, c.hosting.invariant.2)
