use Rattle.std.proofs.Common.{◌≡◌, true, rules}
use Rattle.share_wire.specs.Datagram.{body_fits}
use Rattle.share_wire.specs.declared.message.Body.TheVariants as body
use Rattle.share_session.proofs.RangeLaws.{offer_fits}
use Rattle.share_session.proofs.writing.push_offer.Goals as goal

pub returns-clause-fits : goal.returns-clause-fits
returns-clause-fits c =
    let ranges : body_fits (body.Offer c.args.offer) ≡ true = search rules in
    offer_fits c.args.offer ranges
