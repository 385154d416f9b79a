use Rattle.std.proofs.Common.{arith}
use Rattle.pick_core.specs.Runs.{seen_in}
use Rattle.pick_core.proofs.Passing.{seen-long}
use Rattle.pick_core.proofs.TreeRuns.{tree-anew}
use Rattle.pick_core.proofs.runs.tree_of.Goals as goal

pub renew_runs-requires : goal.renew_runs-requires
renew_runs-requires c =
    let rows = c.args.rows.now in
    tree-anew 18446744073709551615 c.in_ok-tree.tree (seen_in rows) (omega (arith, seen-long rows, c.in_ok-tree.ensures.runs)) (omega (arith, seen-long rows)) c.in_ok-tree.ensures.groups
