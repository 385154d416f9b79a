use Rattle.std.proofs.Common.{None, get_or, arith}
use Rattle.std.proofs.lemmas.Option.{slice_get-get_or}
use Rattle.pick_core.proofs.TreeRuns.{round-none, round-more, round-past, round-end}
use Rattle.pick_core.proofs.tree.box_round.Goals as goal

pub loop-at-init : goal.loop-at-init
loop-at-init c = round-none c.args.lower.now c.args.run c.saturating_mul-at.result None (omega (arith, c.saturating_mul-at.ensures))

pub loop-at-preserved : goal.loop-at-preserved
loop-at-preserved c =
    let lower = c.args.lower.now in
    let at = c.loop-at.at in
    round-more lower c.args.run at c.loop-at.outer (get_or lower at None) c.joined-outer.result (slice_get-get_or lower at None c.loop-at-test.true) c.loop-at.invariant c.joined-outer.ensures.first c.joined-outer.ensures.second

pub returns : goal.returns
returns c = round-end c.args.lower.now c.args.run c.loop-at.at c.loop-at.outer c.loop-at-test.false c.loop-at.invariant

pub returns-then-at-end : goal.returns-then-at-end
returns-then-at-end c =
    round-past c.args.lower.now c.args.run c.loop-at.at c.loop-at.outer (omega (arith, c.saturating_mul-at.ensures, c.saturating_add-end.ensures)) c.loop-at.invariant
