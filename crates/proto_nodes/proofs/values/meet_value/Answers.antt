use Rattle.std.proofs.Common.{◌≡◌, Err, inr, rules}
use Rattle.proto_nodes.specs.Shown.{shown}
use Rattle.proto_nodes.proofs.Standing.{holds-by}
use Rattle.proto_nodes.proofs.values.meet_value.Goals as goal

pub returns-in_err-check_value : goal.returns-in_err-check_value
returns-in_err-check_value c =
    let failed : c.from_residual.result ≡ Err c.in_err-check_value.field-0.0 = search rules in
    rw failed (λ at o rest is. inr (c.in_err-check_value.ensures at o c.args.items rest (shown c.args.walker.now) is))

pub returns : goal.returns
returns c =
    holds-by c.args.place.line c.args.place.name.now c.args.place.field c.args.twice c.args.items c.args.inside.now (shown c.args.walker.now) c.meet_field.result c.meet_field.new.walker c.in_ok-check_value.ensures.0
    c.in_ok-check_value.ensures.1 c.meet_field.ensures
