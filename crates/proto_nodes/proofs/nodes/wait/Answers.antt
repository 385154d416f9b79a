use Rattle.proto_parts.specs.Settled.{doing}
use Rattle.proto_meaning.specs.trees.Meaning.{node}
use Rattle.proto_nodes.specs.Shown.{shown}
use Rattle.proto_nodes.proofs.Waiting.{machine-pushed, waits}
use Rattle.proto_nodes.proofs.nodes.wait.Goals as goal

pub returns-clause-goes : goal.returns-clause-goes
returns-clause-goes c =
    λ ps k. waits ps (doing (node ps c.args.node.now).does (shown c.args.machine.now.walker)) c.args.frame c.args.machine.now.frames.items
    (record { protos = c.args.machine.now.protos; walker = c.begin.new.walker; frames = c.push.new.self }) c.begin.result c.in_ok-push.ensures.items (c.begin.ensures.goes ps k)

pub returns-clause-machine : goal.returns-clause-machine
returns-clause-machine c =
    machine-pushed c.begin.result c.args.machine.now (record { protos = c.args.machine.now.protos; walker = c.begin.new.walker; frames = c.push.new.self }) c.args.frame c.in_ok-push.ensures.items c.begin.ensures.walker c.requires.machine c.requires.frame
