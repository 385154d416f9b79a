use Rattle.std.proofs.Common.{◌≡◌, ◌++◌, ◌≤◌, length}
use Rattle.proto_parts.specs.Ends.{few}
use Rattle.proto_parts.specs.Wires.{wires, wires_waiting, means}
use Rattle.proto_parts.proofs.wires.routes_of.Given as goal

abbrev pub invariant-loop : goal.invariant-loop
invariant-loop l =
    (few (means (wires l.whole)) ≡ few (l.routes ++ means (wires_waiting l.left.items))) × (length l.routes ≤ 65536)
