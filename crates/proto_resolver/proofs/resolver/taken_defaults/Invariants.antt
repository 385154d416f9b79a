use Rattle.std.proofs.Common.{◌≡◌, ◌++◌}
use Rattle.std.specs.Vec.Iter.{into_iter_items}
use Rattle.proto_resolver.specs.Held.{names_of}
use Rattle.proto_resolver.specs.Steps.{defaults_taken}
use Rattle.proto_resolver.proofs.resolver.taken_defaults.Given as goal

abbrev pub invariant-loop-default : goal.invariant-loop-default
invariant-loop-default l = defaults_taken (names_of l.taken) l.fn.defaults ≡ l.trees ++ defaults_taken (names_of l.taken) (into_iter_items l.default-iterator)
