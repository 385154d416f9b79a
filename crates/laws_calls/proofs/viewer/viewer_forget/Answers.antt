use Rattle.laws_calls.proofs.Viewers.{forget}
use Rattle.laws_calls.proofs.viewer.viewer_forget.Goals as goal

pub returns : goal.returns
returns g c = forget c.steps_law.ensures.calls c.args.viewer.now c.forget.new.self c.forget.ensures
