use Rattle.share_wire.specs.Decoding.{decoded}
use Rattle.laws_calls.proofs.Hosts.{take}
use Rattle.laws_calls.proofs.host.host_take.Goals as goal

pub returns : goal.returns
returns c = take c.steps_law.ensures.calls c.args.host.now c.take.new.self (decoded c.args.bytes.now) c.take.result c.take.ensures.mark c.take.ensures.step
