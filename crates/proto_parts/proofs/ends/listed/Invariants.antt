use Rattle.std.proofs.Common.{◌≡◌, ◌++◌, ◌≤◌, length}
use Rattle.proto_parts.specs.Ends.{list, waiting}
use Rattle.proto_parts.proofs.ends.listed.Given as goal

abbrev pub invariant-loop : goal.invariant-loop
invariant-loop l = (l.found ++ waiting l.left.items ≡ list l.ends) × (length l.found ≤ 65536)
