use Rattle.std.proofs.Common.{◌≡◌, Err, drop, rules, subst, sym}
use Rattle.proto_nodes.specs.Shown.{shown}
use Rattle.proto_expand.specs.Whole.{RootsGo}
use Rattle.proto_expand.proofs.Together.{first-of, roots-flooded, roots-next, roots-stop}
use Rattle.proto_expand.proofs.whole.put_next.Goals as goal

pub returns-in_err-put_statement-clause-goes : goal.returns-in_err-put_statement-clause-goes
returns-in_err-put_statement-clause-goes c =
    let failed : c.from_residual.result ≡ Err c.in_err-put_statement.field-0.0 = search rules in
    let first = first-of c.args.statements.now c.first-item.result c.in-len1-up.len_at_least c.first-item.is in
    λ ps k sized. subst (λ x. RootsGo ps c.args.statements.now c.args.roots.now (shown c.args.machine.now.walker) x c.put_statement.new.roots (shown c.put_statement.new.machine.walker)) (sym failed)
    (roots-stop ps c.args.statements.now c.first-item.result (drop 1 c.args.statements.now) c.args.roots.now (shown c.args.machine.now.walker) c.in_err-put_statement.field-0.0 first (c.in_err-put_statement.ensures.goes ps k))

pub returns-then-looked-gt0-clause-goes : goal.returns-then-looked-gt0-clause-goes
returns-then-looked-gt0-clause-goes c =
    λ ps k sized. roots-next ps c.args.statements.now c.first-item.result (drop 1 c.args.statements.now) c.args.roots.now c.put_statement.new.roots (shown c.args.machine.now.walker) (shown c.put_statement.new.machine.walker)
    (first-of c.args.statements.now c.first-item.result c.in-len1-up.len_at_least c.first-item.is) (c.in_ok-put_statement.ensures.goes ps k)

pub returns-in_err-count-clause-goes : goal.returns-in_err-count-clause-goes
returns-in_err-count-clause-goes c =
    let failed : c.from_residual-in_err-count.result ≡ Err c.in_err-count.field-0.0 = search rules in
    let first = first-of c.args.statements.now c.first-item.result c.in-len1-up.len_at_least c.first-item.is in
    λ ps k sized. subst (λ x. RootsGo ps c.args.statements.now c.args.roots.now (shown c.args.machine.now.walker) x c.put_statement.new.roots (shown c.put_statement.new.machine.walker)) (sym failed)
    (roots-flooded ps c.args.statements.now c.first-item.result (drop 1 c.args.statements.now) c.args.roots.now c.put_statement.new.roots (shown c.args.machine.now.walker) (shown c.put_statement.new.machine.walker) c.in_err-count.field-0.0
    first sized (c.in_ok-put_statement.ensures.goes ps k) (sym c.in_err-count.ensures))

pub returns-clause-goes : goal.returns-clause-goes
returns-clause-goes c =
    λ ps k sized. roots-next ps c.args.statements.now c.first-item.result (drop 1 c.args.statements.now) c.args.roots.now c.put_statement.new.roots (shown c.args.machine.now.walker) (shown c.put_statement.new.machine.walker)
    (first-of c.args.statements.now c.first-item.result c.in-len1-up.len_at_least c.first-item.is) (c.in_ok-put_statement.ensures.goes ps k)
