use Rattle.std.proofs.Common.{◌≡◌, map, take}
use Rattle.proto_expand.specs.Tied.{known_of, read_of}
use Rattle.proto_expand.proofs.whole.known_protos.Given as goal

abbrev pub invariant-loop-tree : goal.invariant-loop-tree
invariant-loop-tree l = map known_of l.protos.items ≡ map read_of (take l.tree-index l.trees)
