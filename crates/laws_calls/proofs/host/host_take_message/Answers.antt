use Rattle.std.specs.Prelude.{Ok}
use Rattle.laws_calls.proofs.Hosts.{take}
use Rattle.laws_calls.proofs.host.host_take_message.Goals as goal

pub returns : goal.returns
returns c = take c.steps_law.ensures.calls c.args.host.now c.take_message.new.self (Ok c.args.message) c.take_message.result c.take_message.ensures.mark c.take_message.ensures.step
