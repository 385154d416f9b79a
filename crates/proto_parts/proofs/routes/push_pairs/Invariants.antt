use Rattle.std.proofs.Common.{◌≡◌, ◌++◌, take}
use Rattle.proto_parts.specs.Routes.{routes_between}
use Rattle.proto_parts.proofs.routes.push_pairs.Given as goal

abbrev pub invariant-loop-source : goal.invariant-loop-source
invariant-loop-source l = l.routes ≡ l.fn.routes ++ routes_between l.line (take l.source-index l.sources) l.targets
