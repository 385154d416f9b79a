use Rattle.std.proofs.Common.{◌≡◌, drop, [], List}
use Rattle.proto_meaning.specs.Sight.{Prototype}
use Rattle.proto_parts.specs.Settled.{doing}
use Rattle.proto_nodes.specs.Shown.{shown}
use Rattle.proto_nodes.specs.Protos.{Knows}
use Rattle.proto_nodes.specs.Frames.{MachineSound}
use Rattle.proto_expand.specs.Rows.{RootsSized}
use Rattle.proto_expand.specs.Whole.{roots_do}
use Rattle.proto_expand.proofs.whole.put_roots.Given as goal

abbrev pub invariant-loop-index : goal.invariant-loop-index
invariant-loop-index l = record {
  rest : (ps : List Prototype) → Knows ps l.fn.machine.protos.now → RootsSized ps l.statements → doing (roots_do ps l.statements []) (shown l.fn.machine.walker) ≡ doing (roots_do ps (drop l.index l.statements) l.roots) (shown l.machine.walker);
  protos : l.machine.protos ≡ l.fn.machine.protos;
  sound : MachineSound l.machine;
  idle : l.machine.frames.items ≡ [];
}
