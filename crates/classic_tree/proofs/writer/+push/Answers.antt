use Rattle.std.proofs.Common.{arith, [], ◌∷◌, replicate}
use Rattle.std.proofs.lemmas.Grind.{common_steps}
use Rattle.std.proofs.lemmas.Result.{on_ok_weaker}
use Rattle.x3d_values.proofs.Joined.{next, appended, grows, onward, perhaps}
use Rattle.classic_tree.specs.Writing.{line_text, declaration_text, item_text, node_text, statement_text}
use Rattle.classic_tree.proofs.Equations.{node_text-full, proto_text_is}
use Rattle.classic_tree.proofs.Grown.{thrice, all_lines, falls_within}
use Rattle.classic_tree.proofs.writer.+push.Goals as goal

pub push_node-returns-in_ok-push-in-Full-clause-ok :
    goal.push_node-returns-in_ok-push-in-Full-clause-ok
push_node-returns-in_ok-push-in-Full-clause-ok t c =
    let e = node_text-full c.in-Full._line c.in-Full.name c.in-Full.node_type c.in-Full.items c.args.indent in
    rw c.in-Full.is (grind (arith, common_steps))

pub push_proto-returns-clause-ok : goal.push_proto-returns-clause-ok
push_proto-returns-clause-ok t c =
    let p = proto_text_is c.args.proto.now c.args.indent in
    on_ok_weaker c.push_body.result (λ e. grind (arith, common_steps)) c.push_body.ensures.ok

-- ---- lists of parts, each on its line

pub push_item_lines-loop-item-preserved : goal.push_item_lines-loop-item-preserved
push_item_lines-loop-item-preserved t c =
    next (line_text item_text c.args.indent) c.args.items.now c.item-item.result c.item-item.result c.loop-item.item-index
    c.args.out.now.items c.loop-item.out.items c.push.new.self.items
    c.loop-item-test.true c.item-item.is c.loop-item.invariant
    (thrice (replicate c.args.indent 32) (item_text c.item-item.result c.args.indent) (10 ∷ [])
    c.loop-item.out.items c.push_spaces.new.out.items c.push_item.new.out.items c.push.new.self.items
    c.in_ok-push_spaces.ensures.ok c.in_ok-push_item.ensures.ok c.in_ok-push.ensures.items)

pub push_item_lines-returns-clause-ok : goal.push_item_lines-returns-clause-ok
push_item_lines-returns-clause-ok t c =
    all_lines item_text c.args.indent c.args.items.now c.loop-item.item-index c.args.out.now.items c.loop-item.out.items
    c.loop-item.invariant c.loop-item-test.false

pub push_item_lines-returns-clause-kept : goal.push_item_lines-returns-clause-kept
push_item_lines-returns-clause-kept t c = appended _ c.loop-item.invariant

pub push_item_lines-returns-in_err-push_spaces-clause-kept : goal.push_item_lines-returns-in_err-push_spaces-clause-kept
push_item_lines-returns-in_err-push_spaces-clause-kept t c = grows _ c.loop-item.invariant c.in_err-push_spaces.ensures.kept

pub push_item_lines-returns-in_err-push_item-clause-kept : goal.push_item_lines-returns-in_err-push_item-clause-kept
push_item_lines-returns-in_err-push_item-clause-kept t c = grows _ c.loop-item.invariant (onward c.in_ok-push_spaces.ensures.kept c.in_err-push_item.ensures.kept)

pub push_item_lines-returns-in_err-push-clause-kept : goal.push_item_lines-returns-in_err-push-clause-kept
push_item_lines-returns-in_err-push-clause-kept t c = grows _ c.loop-item.invariant (onward c.in_ok-push_spaces.ensures.kept (onward c.in_ok-push_item.ensures.kept (perhaps _ _ c.push.ensures.items)))

pub push_node_lines-loop-node-preserved : goal.push_node_lines-loop-node-preserved
push_node_lines-loop-node-preserved t c =
    next (line_text node_text c.args.indent) c.args.nodes.now c.node-item.result c.node-item.result c.loop-node.node-index
    c.args.out.now.items c.loop-node.out.items c.push.new.self.items
    c.loop-node-test.true c.node-item.is c.loop-node.invariant
    (thrice (replicate c.args.indent 32) (node_text c.node-item.result c.args.indent) (10 ∷ [])
    c.loop-node.out.items c.push_spaces.new.out.items c.push_node.new.out.items c.push.new.self.items
    c.in_ok-push_spaces.ensures.ok c.in_ok-push_node.ensures.ok c.in_ok-push.ensures.items)

pub push_node_lines-returns-clause-ok : goal.push_node_lines-returns-clause-ok
push_node_lines-returns-clause-ok t c =
    all_lines node_text c.args.indent c.args.nodes.now c.loop-node.node-index c.args.out.now.items c.loop-node.out.items
    c.loop-node.invariant c.loop-node-test.false

pub push_node_lines-returns-clause-kept : goal.push_node_lines-returns-clause-kept
push_node_lines-returns-clause-kept t c = appended _ c.loop-node.invariant

pub push_node_lines-returns-in_err-push_spaces-clause-kept : goal.push_node_lines-returns-in_err-push_spaces-clause-kept
push_node_lines-returns-in_err-push_spaces-clause-kept t c = grows _ c.loop-node.invariant c.in_err-push_spaces.ensures.kept

pub push_node_lines-returns-in_err-push_node-clause-kept : goal.push_node_lines-returns-in_err-push_node-clause-kept
push_node_lines-returns-in_err-push_node-clause-kept t c = grows _ c.loop-node.invariant (onward c.in_ok-push_spaces.ensures.kept c.in_err-push_node.ensures.kept)

pub push_node_lines-returns-in_err-push-clause-kept : goal.push_node_lines-returns-in_err-push-clause-kept
push_node_lines-returns-in_err-push-clause-kept t c = grows _ c.loop-node.invariant (onward c.in_ok-push_spaces.ensures.kept (onward c.in_ok-push_node.ensures.kept (perhaps _ _ c.push.ensures.items)))

pub push_declaration_lines-loop-declaration-preserved : goal.push_declaration_lines-loop-declaration-preserved
push_declaration_lines-loop-declaration-preserved t c =
    next (line_text (declaration_text node_text) c.args.indent) c.args.declarations.now c.declaration-item.result c.declaration-item.result c.loop-declaration.declaration-index
    c.args.out.now.items c.loop-declaration.out.items c.push.new.self.items
    c.loop-declaration-test.true c.declaration-item.is c.loop-declaration.invariant
    (thrice (replicate c.args.indent 32) ((declaration_text node_text) c.declaration-item.result c.args.indent) (10 ∷ [])
    c.loop-declaration.out.items c.push_spaces.new.out.items c.push_declaration.new.out.items c.push.new.self.items
    c.in_ok-push_spaces.ensures.ok c.in_ok-push_declaration.ensures.ok c.in_ok-push.ensures.items)

pub push_declaration_lines-returns-clause-ok : goal.push_declaration_lines-returns-clause-ok
push_declaration_lines-returns-clause-ok t c =
    all_lines (declaration_text node_text) c.args.indent c.args.declarations.now c.loop-declaration.declaration-index c.args.out.now.items c.loop-declaration.out.items
    c.loop-declaration.invariant c.loop-declaration-test.false

pub push_declaration_lines-returns-clause-kept : goal.push_declaration_lines-returns-clause-kept
push_declaration_lines-returns-clause-kept t c = appended _ c.loop-declaration.invariant

pub push_declaration_lines-returns-in_err-push_spaces-clause-kept : goal.push_declaration_lines-returns-in_err-push_spaces-clause-kept
push_declaration_lines-returns-in_err-push_spaces-clause-kept t c = grows _ c.loop-declaration.invariant c.in_err-push_spaces.ensures.kept

pub push_declaration_lines-returns-in_err-push_declaration-clause-kept : goal.push_declaration_lines-returns-in_err-push_declaration-clause-kept
push_declaration_lines-returns-in_err-push_declaration-clause-kept t c = grows _ c.loop-declaration.invariant (onward c.in_ok-push_spaces.ensures.kept c.in_err-push_declaration.ensures.kept)

pub push_declaration_lines-returns-in_err-push-clause-kept : goal.push_declaration_lines-returns-in_err-push-clause-kept
push_declaration_lines-returns-in_err-push-clause-kept t c = grows _ c.loop-declaration.invariant (onward c.in_ok-push_spaces.ensures.kept (onward c.in_ok-push_declaration.ensures.kept (perhaps _ _ c.push.ensures.items)))

pub push_statement_lines-loop-statement-preserved : goal.push_statement_lines-loop-statement-preserved
push_statement_lines-loop-statement-preserved t c =
    next (line_text statement_text c.args.indent) c.args.statements.now c.statement-item.result c.statement-item.result c.loop-statement.statement-index
    c.args.out.now.items c.loop-statement.out.items c.push.new.self.items
    c.loop-statement-test.true c.statement-item.is c.loop-statement.invariant
    (thrice (replicate c.args.indent 32) (statement_text c.statement-item.result c.args.indent) (10 ∷ [])
    c.loop-statement.out.items c.push_spaces.new.out.items c.push_statement.new.out.items c.push.new.self.items
    c.in_ok-push_spaces.ensures.ok c.in_ok-push_statement.ensures.ok c.in_ok-push.ensures.items)

pub push_statement_lines-returns-clause-ok : goal.push_statement_lines-returns-clause-ok
push_statement_lines-returns-clause-ok t c =
    all_lines statement_text c.args.indent c.args.statements.now c.loop-statement.statement-index c.args.out.now.items c.loop-statement.out.items
    c.loop-statement.invariant c.loop-statement-test.false

pub push_statement_lines-returns-clause-kept : goal.push_statement_lines-returns-clause-kept
push_statement_lines-returns-clause-kept t c = appended _ c.loop-statement.invariant

pub push_statement_lines-returns-in_err-push_spaces-clause-kept : goal.push_statement_lines-returns-in_err-push_spaces-clause-kept
push_statement_lines-returns-in_err-push_spaces-clause-kept t c = grows _ c.loop-statement.invariant c.in_err-push_spaces.ensures.kept

pub push_statement_lines-returns-in_err-push_statement-clause-kept : goal.push_statement_lines-returns-in_err-push_statement-clause-kept
push_statement_lines-returns-in_err-push_statement-clause-kept t c = grows _ c.loop-statement.invariant (onward c.in_ok-push_spaces.ensures.kept c.in_err-push_statement.ensures.kept)

pub push_statement_lines-returns-in_err-push-clause-kept : goal.push_statement_lines-returns-in_err-push-clause-kept
push_statement_lines-returns-in_err-push-clause-kept t c = grows _ c.loop-statement.invariant (onward c.in_ok-push_spaces.ensures.kept (onward c.in_ok-push_statement.ensures.kept (perhaps _ _ c.push.ensures.items)))

-- ---- that what was there stays

pub push_items-returns-clause-kept : goal.push_items-returns-clause-kept
push_items-returns-clause-kept t c = grows _ c.in_ok-push.ensures.items (onward c.in_ok-push_item_lines.ensures.kept c.push_spaces.ensures.kept)

pub push_items-returns-in_err-push_item_lines-clause-kept : goal.push_items-returns-in_err-push_item_lines-clause-kept
push_items-returns-in_err-push_item_lines-clause-kept t c = grows _ c.in_ok-push.ensures.items c.in_err-push_item_lines.ensures.kept

pub push_nodes-returns-clause-kept : goal.push_nodes-returns-clause-kept
push_nodes-returns-clause-kept t c = grows _ c.in_ok-push.ensures.items (onward c.in_ok-push_node_lines.ensures.kept c.push_spaces.ensures.kept)

pub push_nodes-returns-in_err-push_node_lines-clause-kept : goal.push_nodes-returns-in_err-push_node_lines-clause-kept
push_nodes-returns-in_err-push_node_lines-clause-kept t c = grows _ c.in_ok-push.ensures.items c.in_err-push_node_lines.ensures.kept

pub push_interface-returns-clause-kept : goal.push_interface-returns-clause-kept
push_interface-returns-clause-kept t c = grows _ c.in_ok-push.ensures.items (onward c.in_ok-push_declaration_lines.ensures.kept c.push_spaces.ensures.kept)

pub push_interface-returns-in_err-push_declaration_lines-clause-kept : goal.push_interface-returns-in_err-push_declaration_lines-clause-kept
push_interface-returns-in_err-push_declaration_lines-clause-kept t c = grows _ c.in_ok-push.ensures.items c.in_err-push_declaration_lines.ensures.kept

pub push_body-returns-clause-kept : goal.push_body-returns-clause-kept
push_body-returns-clause-kept t c = grows _ c.in_ok-extend_from_slice.ensures.items (onward c.in_ok-push_statement_lines.ensures.kept (onward c.in_ok-push_spaces.ensures.kept (appended _ c.in_ok-push.ensures.items)))

pub push_body-returns-in_err-push-clause-kept : goal.push_body-returns-in_err-push-clause-kept
push_body-returns-in_err-push-clause-kept t c = grows _ c.in_ok-extend_from_slice.ensures.items (onward c.in_ok-push_statement_lines.ensures.kept (onward c.in_ok-push_spaces.ensures.kept (perhaps _ _ c.push.ensures.items)))

pub push_body-returns-in_err-push_spaces-clause-kept : goal.push_body-returns-in_err-push_spaces-clause-kept
push_body-returns-in_err-push_spaces-clause-kept t c = grows _ c.in_ok-extend_from_slice.ensures.items (onward c.in_ok-push_statement_lines.ensures.kept c.in_err-push_spaces.ensures.kept)

pub push_node-returns-in_ok-push-in-Full-clause-kept : goal.push_node-returns-in_ok-push-in-Full-clause-kept
push_node-returns-in_ok-push-in-Full-clause-kept t c = onward c.in_ok-push_head-in-Full.ensures.kept (onward c.in_ok-push_items-in-Full.ensures.kept (appended _ c.in_ok-push-in-Full.ensures.items))

pub push_node-returns-in_err-push-in-Full-clause-kept : goal.push_node-returns-in_err-push-in-Full-clause-kept
push_node-returns-in_err-push-in-Full-clause-kept t c = onward c.in_ok-push_head-in-Full.ensures.kept (onward c.in_ok-push_items-in-Full.ensures.kept (perhaps _ _ c.push.ensures.items))

pub push_proto-returns-clause-kept : goal.push_proto-returns-clause-kept
push_proto-returns-clause-kept t c = onward c.in_ok-push_proto_head.ensures.kept (onward c.in_ok-push_interface.ensures.kept c.push_body.ensures.kept)

-- ---- that what is inside takes fewer steps

pub push_item_lines-push_item-requires : goal.push_item_lines-push_item-requires
push_item_lines-push_item-requires t c =
    (falls_within _ c.args.items.now c.loop-item.item-index c.item-item.result t c.loop-item-test.true c.item-item.is c.decreases, tt)

pub push_node_lines-push_node-requires : goal.push_node_lines-push_node-requires
push_node_lines-push_node-requires t c =
    (falls_within _ c.args.nodes.now c.loop-node.node-index c.node-item.result t c.loop-node-test.true c.node-item.is c.decreases, tt)
