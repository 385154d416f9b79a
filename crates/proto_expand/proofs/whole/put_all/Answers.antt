use Rattle.std.proofs.Common.{◌≡◌, [], Err, ap, rules, sym}
use Rattle.proto_parts.specs.Settled.{doing}
use Rattle.proto_parts.specs.Put as put
use Rattle.proto_nodes.specs.Shown.{shown}
use Rattle.proto_expand.specs.Whole.{roots_do}
use Rattle.proto_expand.proofs.Together.{all-err, all-made, routes-err}
use Rattle.proto_expand.proofs.whole.put_all.Goals as goal

pub returns-in_err-roots : goal.returns-in_err-roots
returns-in_err-roots c =
    let failed : c.from_residual.result ≡ Err c.in_err-roots.field-0.0 = search rules in
    λ ps k sized. all-err _ (doing (roots_do ps c.args.statements.now []) (shown c.args.machine.now.walker)) c.from_residual.result c.in_err-roots.field-0.0 failed (c.in_err-roots.ensures ps k sized)

pub returns-in_err-routes : goal.returns-in_err-routes
returns-in_err-routes c =
    let failed : c.from_residual-in_err-routes.result ≡ Err c.in_err-routes.field-0.0 = search rules in
    λ ps k sized. routes-err _ (doing (roots_do ps c.args.statements.now []) (shown c.args.machine.now.walker)) c.from_residual-in_err-routes.result c.in_ok-roots.roots (shown c.put_roots.new.machine.walker) c.in_err-routes.field-0.0 failed (c.in_ok-roots.ensures ps k sized) c.in_err-routes.ensures.routes

pub returns : goal.returns
returns c =
    λ ps k sized. all-made (doing (roots_do ps c.args.statements.now []) (shown c.args.machine.now.walker)) c.in_ok-roots.roots (shown c.put_roots.new.machine.walker) c.in_ok-routes.routes _ (c.in_ok-roots.ensures ps k sized) c.in_ok-routes.ensures.routes (ap (λ p. put.shown p) (sym c.in_ok-routes.ensures.put))
