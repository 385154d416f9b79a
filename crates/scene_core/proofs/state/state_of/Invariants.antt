use Rattle.std.proofs.Common.{◌≡◌, map, take}
use Rattle.scene_core.specs.Scene.{fields_of}
use Rattle.scene_core.proofs.state.state_of.Given as goal

abbrev pub invariant-loop-node : goal.invariant-loop-node
invariant-loop-node l = l.state.items ≡ map fields_of (take l.node-index l.nodes)
