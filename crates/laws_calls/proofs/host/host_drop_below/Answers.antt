use Rattle.laws_calls.proofs.Hosts.{drop_below}
use Rattle.laws_calls.proofs.host.host_drop_below.Goals as goal

pub returns : goal.returns
returns c = drop_below c.steps_law.ensures.calls c.args.host.now c.drop_below.new.self c.args.floor c.drop_below.result c.drop_below.ensures.mark c.drop_below.ensures.step
