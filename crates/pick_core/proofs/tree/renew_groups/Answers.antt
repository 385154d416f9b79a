use Rattle.std.proofs.Common.{inl, inr, arith}
use Rattle.pick_core.proofs.TreeRuns.{so_far-none, so_far-more, so_far-all}
use Rattle.pick_core.proofs.tree.renew_groups.Goals as goal

pub loop-group-init : goal.loop-group-init
loop-group-init c = so_far-none c.args.first c.args.last c.args.groups.now c.args.runs.now

pub loop-group-preserved : goal.loop-group-preserved
loop-group-preserved c =
    so_far-more c.args.first c.args.last c.loop-group.group c.args.groups.now c.loop-group.groups c.args.runs.now c.loop-group.invariant c.box_round.result c.loop-group-test.true (omega arith) c.box_round.ensures

pub returns : goal.returns
returns c =
    so_far-all c.args.first c.args.last c.loop-group.group c.args.groups.now c.loop-group.groups c.args.runs.now c.loop-group.invariant (inl (omega arith)) c.requires

pub returns-then-group-last : goal.returns-then-group-last
returns-then-group-last c =
    so_far-all c.args.first c.args.last c.loop-group.group c.args.groups.now c.loop-group.groups c.args.runs.now c.loop-group.invariant (inr (omega arith)) c.requires
