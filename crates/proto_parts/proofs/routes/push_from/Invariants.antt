use Rattle.std.proofs.Common.{◌≡◌, ◌++◌, take}
use Rattle.proto_parts.specs.Routes.{routes_from}
use Rattle.proto_parts.proofs.routes.push_from.Given as goal

abbrev pub invariant-loop-target : goal.invariant-loop-target
invariant-loop-target l = l.routes ≡ l.fn.routes ++ routes_from l.line (take l.target-index l.targets) l.source
