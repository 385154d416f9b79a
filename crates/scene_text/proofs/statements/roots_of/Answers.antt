use Rattle.std.proofs.Common.{◌∙◌, ◌≤◌, ap, length, subst, take_all}
use Rattle.x3d_values.specs.Ranges.{max_depth}
use Rattle.scene_text.specs.Statements.{root_tree}
use Rattle.scene_text.specs.Tree.{each, node_tree}
use Rattle.scene_text.specs.Views.{plan_of}
use Rattle.scene_text.proofs.Trees.{step_of, root_more}
use Rattle.scene_text.proofs.statements.roots_of.Goals as goal

pub loop-root-preserved : goal.loop-root-preserved
loop-root-preserved c =
    root_more (node_tree max_depth (plan_of c.args.plan.now)) c.args.seen.now.items c.args.plan.now.scene.now.roots c.roots-root-items.result.now c.loop-root.root-index
    (step_of c.loop-root.seen.items c.loop-root.roots.items) (step_of c.node_tree.new.seen.items c.in_ok-tree.tree) c.push.new.self.items
    c.roots-root-items.ensures c.loop-root-test.true c.loop-root.invariant c.in_ok-tree.ensures c.in_ok-push.ensures.items

pub returns : goal.returns
returns c =
    let i = c.loop-root.root-index in
    let all = take_all i c.args.plan.now.scene.now.roots (subst (λ ns. length ns ≤ i) c.roots-root-items.ensures c.loop-root-test.false) in
    c.loop-root.invariant ∙ ap (each (root_tree (node_tree max_depth (plan_of c.args.plan.now))) c.args.seen.now.items) all
