use Rattle.proto_parts.specs.Wires.{wires_waiting}
use Rattle.proto_parts.proofs.Waiting.{one-step}
use Rattle.proto_parts.proofs.wires.step.Goals as goal

pub returns-in-One : goal.returns-in-One
returns-in-One c = rw c.in-One.is (one-step c.args.routes c.in-One.wire (wires_waiting c.args.left.now.items) c.push_wire.result c.push_wire.ensures)
