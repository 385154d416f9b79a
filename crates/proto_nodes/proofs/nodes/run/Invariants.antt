use Rattle.std.proofs.Common.{◌≡◌, List}
use Rattle.proto_meaning.specs.Sight.{Prototype}
use Rattle.proto_nodes.specs.Protos.{Knows}
use Rattle.proto_nodes.specs.Frames.{MachineSound, TaskSound, all_comes}
use Rattle.proto_nodes.proofs.nodes.run.Given as goal

-- what is to be done comes to what all comes to
abbrev pub invariant-loop : goal.invariant-loop
invariant-loop l =
    ((ps : List Prototype) → Knows ps l.fn.machine.protos.now → all_comes ps l.task l.machine ≡ all_comes ps l.fn.task l.fn.machine)
    × (l.machine.protos ≡ l.fn.machine.protos) × MachineSound l.machine × TaskSound l.task
