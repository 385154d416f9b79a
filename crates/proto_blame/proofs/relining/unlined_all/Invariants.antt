use Rattle.std.proofs.Common.{◌≡◌, ◌++◌, map}
use Rattle.std.specs.Vec.Iter.{into_iter_items}
use Rattle.proto_blame.specs.Relined.{unlined}
use Rattle.proto_blame.proofs.relining.unlined_all.Given as goal

abbrev pub invariant-loop-declaration : goal.invariant-loop-declaration
invariant-loop-declaration l =
    map unlined l.fn.interface ≡ l.made ++ map unlined (into_iter_items l.declaration-iterator)
