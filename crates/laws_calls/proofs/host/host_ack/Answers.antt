use Rattle.laws_calls.proofs.Hosts.{ack}
use Rattle.laws_calls.proofs.host.host_ack.Goals as goal

pub returns : goal.returns
returns c = ack c.steps_law.ensures.calls c.args.host.now c.args.who c.ack.result.items c.ack.ensures.again
