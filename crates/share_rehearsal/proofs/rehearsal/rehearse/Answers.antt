use Rattle.std.proofs.Common.{◌≤◌, arith}
use Rattle.std.specs.Prelude.{length}
use Rattle.x3d_values.specs.Ranges.{max_viewers}
use Rattle.share_rehearsal.specs.Calls.{seen}
use Rattle.share_rehearsal.proofs.Whole.{is-rehearsed}
use Rattle.share_rehearsal.proofs.rehearsal.rehearse.Goals as goal

pub returns-clause-rehearsed : goal.returns-clause-rehearsed
returns-clause-rehearsed g c =
    let stages = c.args.stages.items in
    let begun = c.in_ok-nodes.nodes in
    let left = c.log_all.new.nodes in
    let some : 1 ≤ length stages = grind (arith, c.len-count.ensures, c.if-count-eq0.false) in
    let most : length stages ≤ max_viewers = grind (arith, c.len-count.ensures, c.if-count-gt-MOST.false) in
    is-rehearsed c.args.mark stages c.args.steps.now c.args.out.now.items c.log_all.new.out.items
    (seen begun) (seen left)
    c.ended.result.host c.ended.result.viewers.items some most c.in_ok-nodes.ensures c.in-Ok.ensures.ok c.ended.ensures.host c.ended.ensures.viewers
