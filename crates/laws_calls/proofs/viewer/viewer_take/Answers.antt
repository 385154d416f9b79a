use Rattle.share_wire.specs.Decoding.{decoded}
use Rattle.laws_calls.proofs.Viewers.{take}
use Rattle.laws_calls.proofs.viewer.viewer_take.Goals as goal

pub returns : goal.returns
returns g c = take c.steps_law.ensures.calls c.args.viewer.now c.take.new.self (decoded c.args.bytes.now) c.take.result c.take.ensures.others c.take.ensures.step
