use Rattle.laws_calls.proofs.Viewers.{join}
use Rattle.laws_calls.proofs.viewer.viewer_join.Goals as goal

pub returns : goal.returns
returns g c = join c.steps_law.ensures.calls c.args.viewer.now c.join.new.self c.args.boot c.join.result c.join.ensures.others c.join.ensures.step c.join.ensures.law
