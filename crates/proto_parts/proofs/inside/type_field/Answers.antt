use Rattle.std.proofs.Common.{None, Some}
use Rattle.x3d_values.specs.Tables.{rows}
use Rattle.proto_parts.proofs.Knowing.{type-known}
use Rattle.proto_parts.proofs.inside.type_field.Goals as goal

pub returns-in_default : goal.returns-in_default
returns-in_default c = type-known c.args.name.now c.as_str.result.now (rows c.args.node_type) None c.in_default.ensures c.as_str.ensures

pub returns : goal.returns
returns c = type-known c.args.name.now c.as_str.result.now (rows c.args.node_type) (Some c.in-Some.row) c.in-Some.ensures c.as_str.ensures
