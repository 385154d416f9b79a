use Rattle.std.proofs.Common.{inl, inr, arith}
use Rattle.pick_core.specs.Runs.{seen_in}
use Rattle.pick_core.proofs.TreeRuns.{so_far-none, so_far-more, so_far-all}
use Rattle.pick_core.proofs.runs.renew_boxes.Goals as goal

pub loop-run-init : goal.loop-run-init
loop-run-init c = so_far-none c.args.first c.args.last c.args.runs.now (seen_in c.args.rows.now)

pub loop-run-preserved : goal.loop-run-preserved
loop-run-preserved c =
    so_far-more c.args.first c.args.last c.loop-run.run c.args.runs.now c.loop-run.runs (seen_in c.args.rows.now) c.loop-run.invariant c.box_round.result c.loop-run-test.true (omega arith) c.box_round.ensures

pub returns : goal.returns
returns c =
    so_far-all c.args.first c.args.last c.loop-run.run c.args.runs.now c.loop-run.runs (seen_in c.args.rows.now) c.loop-run.invariant (inl (omega arith)) c.requires

pub returns-then-run-last : goal.returns-then-run-last
returns-then-run-last c =
    so_far-all c.args.first c.args.last c.loop-run.run c.args.runs.now c.loop-run.runs (seen_in c.args.rows.now) c.loop-run.invariant (inr (omega arith)) c.requires
