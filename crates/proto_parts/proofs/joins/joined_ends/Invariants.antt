use Rattle.std.proofs.Common.{◌≡◌, map, take}
use Rattle.proto_parts.specs.Joined.{ends_in}
use Rattle.proto_parts.specs.Joins.{braces_of, joins_ends}
use Rattle.proto_parts.proofs.joins.joined_ends.Given as goal

abbrev pub invariant-loop-join : goal.invariant-loop-join
invariant-loop-join l = ends_in l.joined ≡ joins_ends (take l.join-index l.joins) (map braces_of l.braces)
