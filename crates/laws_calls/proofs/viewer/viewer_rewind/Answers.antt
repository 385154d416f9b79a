use Rattle.laws_calls.proofs.Viewers.{rewind}
use Rattle.laws_calls.proofs.viewer.viewer_rewind.Goals as goal

pub returns : goal.returns
returns g c = rewind c.steps_law.ensures.calls c.args.viewer.now c.rewind.new.self c.args.bytes.now c.args.boot c.rewind.result c.rewind.ensures.others c.rewind.ensures.law
