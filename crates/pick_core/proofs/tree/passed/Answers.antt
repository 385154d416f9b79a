use Rattle.std.proofs.Common.{subst, arith}
use Rattle.std.specs.Prelude.{◌/◌}
use Rattle.pick_core.specs.Tree.{IsPassed}
use Rattle.pick_core.proofs.TreeRuns.{passed-run, passed-group}
use Rattle.pick_core.proofs.tree.passed.Goals as goal

pub returns-then-is_group_passed : goal.returns-then-is_group_passed
returns-then-is_group_passed c boxes is =
    let p = c.is_group_passed.ensures c.if-is_group_passed.true in
    let late = subst (λ xs. IsPassed xs (c.args.at / 256) c.args.ray c.args.best) c.as_slice.ensures.value p.1 in
    passed-group c.args.tree.now boxes is c.args.at c.args.ray c.args.best p.0 late

pub returns-then-is_passed : goal.returns-then-is_passed
returns-then-is_passed c boxes is =
    let p = c.is_passed.ensures c.if-is_passed.true in
    let late = subst (λ xs. IsPassed xs (c.args.at / 16) c.args.ray c.args.best) c.as_slice-2.ensures.value p in
    passed-run c.args.tree.now boxes is c.args.at c.args.ray c.args.best (omega (arith, c.if-at-ne0.false)) late
