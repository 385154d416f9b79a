use Rattle.laws_calls.proofs.Viewers.{ask}
use Rattle.laws_calls.proofs.viewer.viewer_ask.Goals as goal

pub returns : goal.returns
returns g c = ask c.steps_law.ensures.calls c.args.viewer.now c.ask.result.items c.ask.ensures.again
