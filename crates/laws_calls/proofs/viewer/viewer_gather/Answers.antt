use Rattle.share_wire.specs.Decoding.{decoded}
use Rattle.laws_calls.proofs.Viewers.{gather}
use Rattle.laws_calls.proofs.viewer.viewer_gather.Goals as goal

pub returns : goal.returns
returns g c = gather c.steps_law.ensures.calls c.args.viewer.now c.gather.new.self (decoded c.args.bytes.now) c.gather.result c.gather.ensures.others c.gather.ensures.step
