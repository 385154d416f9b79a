use Rattle.std.proofs.Common.{None}
use Rattle.proto_nodes.proofs.GivingGiven.{filled-inside}
use Rattle.proto_nodes.proofs.values.keep_none.Goals as goal

pub returns-clause-filled : goal.returns-clause-filled
returns-clause-filled c =
    λ at o. filled-inside at o c.args.inside.now c.fill.new.self c.args.place.line c.args.place.name.now c.args.place.field None c.in_ok-fill.ensures.fields c.in_ok-fill.ensures.filled
