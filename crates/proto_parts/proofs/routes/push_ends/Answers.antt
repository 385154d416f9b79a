use Rattle.std.proofs.Common.{◌≡◌, Err, rules}
use Rattle.proto_parts.specs.Ends.{list}
use Rattle.proto_parts.specs.Routes.{routes_between}
use Rattle.proto_parts.proofs.Pairs.{too-many, source-count, target-count}
use Rattle.proto_parts.proofs.routes.push_ends.Goals as goal

pub returns-in_err-sources : goal.returns-in_err-sources
returns-in_err-sources c =
    let failed : c.from_residual.result ≡ Err c.in_err-sources.field-0.0 = search rules in
    rw failed (too-many (list c.args.source.now) c.args.routes (routes_between c.args.line (list c.args.source.now) (list c.args.target.now)) c.in_err-sources.field-0.0
    (source-count c.args.line c.args.source.now c.args.target.now) c.in_err-sources.ensures)

pub returns-in_err-targets : goal.returns-in_err-targets
returns-in_err-targets c =
    let failed : c.from_residual-in_err-targets.result ≡ Err c.in_err-targets.field-0.0 = search rules in
    rw failed (too-many (list c.args.target.now) c.args.routes (routes_between c.args.line (list c.args.source.now) (list c.args.target.now)) c.in_err-targets.field-0.0
    (target-count c.args.line c.args.source.now c.args.target.now) c.in_err-targets.ensures)
