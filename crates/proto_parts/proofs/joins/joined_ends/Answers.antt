use Rattle.std.proofs.Common.{map}
use Rattle.proto_parts.specs.Joined.{ends_in, owned}
use Rattle.proto_parts.specs.Joins.{braces_of}
use Rattle.proto_parts.proofs.Joining.{joined-next}
use Rattle.proto_parts.proofs.joins.joined_ends.Goals as goal

pub loop-join-preserved : goal.loop-join-preserved
loop-join-preserved c =
    joined-next c.args.joins.now c.loop-join.join-index c.join-item.result (map braces_of c.args.braces.now) (ends_in c.loop-join.joined) (ends_in c.join.new.self) (owned c.in_ok-ends.ends)
    c.loop-join-test.true c.join-item.is c.loop-join.invariant c.in_ok-ends.ensures c.in_ok-join.ensures
