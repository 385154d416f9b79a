use Rattle.std.proofs.Common.{◌≡◌, map, take}
use Rattle.proto_parts.specs.Joins.{braces_of}
use Rattle.proto_parts.specs.Sides.{made_routes, parts_routes}
use Rattle.proto_parts.proofs.sides.routes_made.Given as goal

abbrev pub invariant-loop-part : goal.invariant-loop-part
invariant-loop-part l = made_routes l.made ≡ parts_routes (take l.part-index l.parts) (map braces_of l.braces)
