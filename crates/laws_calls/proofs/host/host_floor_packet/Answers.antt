use Rattle.laws_calls.proofs.Hosts.{floor_packet}
use Rattle.laws_calls.proofs.host.host_floor_packet.Goals as goal

pub returns : goal.returns
returns c = floor_packet c.steps_law.ensures.calls c.args.host.now c.floor_packet.result.items c.floor_packet.ensures.again
