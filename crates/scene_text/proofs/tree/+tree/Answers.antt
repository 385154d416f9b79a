use Rattle.std.proofs.Common.{◌∙◌, List, map, true, ap, sym, refl, arith}
use Rattle.std.specs.Prelude.{slice_set}
use Rattle.std.proofs.lemmas.List.{get_or-map, length-map}
use Rattle.classic_tree.specs.declared.tree.BodyItem.{BodyItem}
use Rattle.classic_tree.specs.declared.tree.Given.TheVariants as given
use Rattle.classic_tree.specs.declared.tree.RawValue.{RawValue}
use Rattle.classic_tree.specs.declared.tree.NodeText.{NodeText}
use Rattle.scene_text.specs.Tree.{Shown, Grows, field_tree, node_tree}
use Rattle.scene_text.specs.Views.{plan_of, shown_of}
use Rattle.scene_text.proofs.Trees.{step_of, each_more, node_tree_made, spent_made, again_made, plain_made, declared_made}
use Rattle.scene_text.proofs.tree.+tree.Goals as goal

pub field_trees-loop-field-preserved : goal.field_trees-loop-field-preserved
field_trees-loop-field-preserved t c =
    let element = get_or-map shown_of c.args.shown.now c.loop-field.field-index c.field-item.result (shown_of c.field-item.result) c.loop-field-test.true in
    ap {A = List BodyItem} (λ ws. step_of c.field_tree.new.seen.items ws) c.in_ok-push.ensures.items
    ∙ each_more (field_tree (node_tree c.args.depth (plan_of c.args.plan.now))) c.args.seen.now.items (map shown_of c.args.shown.now) c.loop-field.field-index (shown_of c.field-item.result)
    (step_of c.loop-field.seen.items c.loop-field.items.items) (step_of c.field_tree.new.seen.items c.in_ok-field_tree.field-0)
    (omega (arith, length-map c.args.shown.now shown_of, c.loop-field-test.true))
    c.loop-field.invariant
    (c.in_ok-field_tree.ensures ∙ ap (λ (w : Shown). field_tree (node_tree c.args.depth (plan_of c.args.plan.now)) c.loop-field.seen.items w) (ap shown_of c.field-item.is ∙ sym element))

pub node_trees-loop-node-preserved : goal.node_trees-loop-node-preserved
node_trees-loop-node-preserved t c =
    ap {A = List NodeText} (λ ws. step_of c.node_tree.new.seen.items ws) c.in_ok-push.ensures.items
    ∙ each_more (node_tree c.args.depth (plan_of c.args.plan.now)) c.args.seen.now.items c.args.nodes.now c.loop-node.node-index 0
    (step_of c.loop-node.seen.items c.loop-node.trees.items) (step_of c.node_tree.new.seen.items c.in_ok-node_tree.field-0)
    c.loop-node-test.true
    c.loop-node.invariant
    c.in_ok-node_tree.ensures

pub node_tree-returns : goal.node_tree-returns
node_tree-returns t c =
    node_tree_made c.args.depth (plan_of c.args.plan.now) c.args.seen.now.items c.args.node c.in-Some.node_type
    (step_of c.field_trees.new.seen.items c.in_ok-items.items.items) (slice_set c.args.seen.now.items c.args.node true) (map shown_of c.as_slice-2.result.now) c.in_ok-full_tree.field-0
    (omega (arith, c.if-depth-eq0.false))
    (cc (c.new_type.ensures.is, c.in-Some.is, c.as_slice.ensures.value))
    c.in_ok-items.ensures
    refl
    (cc (c.in_ok-shown.ensures, c.as_slice-2.ensures.value))
    c.in_ok-full_tree.ensures

pub node_tree-returns-then-depth-eq0 : goal.node_tree-returns-then-depth-eq0
node_tree-returns-then-depth-eq0 t c =
    spent_made c.args.depth (plan_of c.args.plan.now) c.args.seen.now.items c.args.node c.in_ok-use_tree.field-0 c.if-depth-eq0.true c.in_ok-use_tree.ensures

pub node_tree-returns-in_default : goal.node_tree-returns-in_default
node_tree-returns-in_default t c =
    again_made c.args.depth (plan_of c.args.plan.now) c.args.seen.now.items c.args.node c.in_ok-use_tree-2.field-0
    (cc (c.new_type.ensures.is, c.in_default.is, c.as_slice.ensures.value)) c.in_ok-use_tree-2.ensures

pub field_tree-returns-in-Plain : goal.field_tree-returns-in-Plain
field_tree-returns-in-Plain t c = rw c.in-Plain.is c.plain_tree.ensures

pub field_tree-returns-in-Declared : goal.field_tree-returns-in-Declared
field_tree-returns-in-Declared t c = rw c.in-Declared.is c.declared_tree.ensures

pub plain_tree-returns : goal.plain_tree-returns
plain_tree-returns t c =
    plain_made c.value_tree.new.seen.items c.in_ok-name.name c.args.name.now c.in-Ok.value _ c.in_ok-name.ensures c.in-Ok.ensures

pub declared_tree-returns : goal.declared_tree-returns
declared_tree-returns t c =
    declared_made c.declaration.result c.args.field.now c.given_tree.new.seen.items c.in_ok-given.given _ c.declaration.ensures c.in_ok-given.ensures

pub given_tree-returns-in_ok-value_tree-in-Some : goal.given_tree-returns-in_ok-value_tree-in-Some
given_tree-returns-in_ok-value_tree-in-Some t c =
    rw c.in-Some.is (ap (λ (m : Grows (RawValue NodeText)). step_of m.seen (given.Value m.made)) c.in_ok-value_tree-in-Some.ensures)

pub given_tree-returns-in-None : goal.given_tree-returns-in-None
given_tree-returns-in-None t c = rw c.in-None.is refl

pub value_tree-returns-in-MFNode : goal.value_tree-returns-in-MFNode
value_tree-returns-in-MFNode t c = rw c.in-MFNode.is (rw c.as_slice.ensures at c.node_list.ensures)
