use Rattle.laws_calls.proofs.Viewers.{offer}
use Rattle.laws_calls.proofs.viewer.viewer_offer.Goals as goal

pub returns : goal.returns
returns g c = offer c.steps_law.ensures.calls c.args.viewer.now c.offer.new.self c.args.point c.offer.result c.offer.ensures.others c.offer.ensures.step
