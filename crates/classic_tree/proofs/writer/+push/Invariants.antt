use Rattle.std.proofs.Common.{◌≡◌, ◌++◌, ◌+◌, ◌*◌, take}
use Rattle.classic_tree.specs.Writing.{lines_text, item_text, node_text, declaration_text, statement_text}
use Rattle.classic_tree.proofs.writer.+push.Given as goal

-- The depth of what is written, and then the rank of the function: what it calls with the same depth is of a lower one.
abbrev pub decreases-push_body : goal.decreases-push_body
decreases-push_body l = 16 * goal.size-push_body l + 3

abbrev pub decreases-push_declaration : goal.decreases-push_declaration
decreases-push_declaration l = 16 * goal.size-push_declaration l + 6

abbrev pub decreases-push_declaration_lines : goal.decreases-push_declaration_lines
decreases-push_declaration_lines l = 16 * goal.size-push_declaration_lines l + 8

abbrev pub decreases-push_given : goal.decreases-push_given
decreases-push_given l = 16 * goal.size-push_given l + 5

abbrev pub decreases-push_interface : goal.decreases-push_interface
decreases-push_interface l = 16 * goal.size-push_interface l + 9

abbrev pub decreases-push_item : goal.decreases-push_item
decreases-push_item l = 16 * goal.size-push_item l + 0

abbrev pub decreases-push_item_lines : goal.decreases-push_item_lines
decreases-push_item_lines l = 16 * goal.size-push_item_lines l + 2

abbrev pub decreases-push_items : goal.decreases-push_items
decreases-push_items l = 16 * goal.size-push_items l + 3

abbrev pub decreases-push_node : goal.decreases-push_node
decreases-push_node l = 16 * goal.size-push_node l + 0

abbrev pub decreases-push_node_lines : goal.decreases-push_node_lines
decreases-push_node_lines l = 16 * goal.size-push_node_lines l + 2

abbrev pub decreases-push_nodes : goal.decreases-push_nodes
decreases-push_nodes l = 16 * goal.size-push_nodes l + 3

abbrev pub decreases-push_proto : goal.decreases-push_proto
decreases-push_proto l = 16 * goal.size-push_proto l + 0

abbrev pub decreases-push_statement : goal.decreases-push_statement
decreases-push_statement l = 16 * goal.size-push_statement l + 0

abbrev pub decreases-push_statement_lines : goal.decreases-push_statement_lines
decreases-push_statement_lines l = 16 * goal.size-push_statement_lines l + 2

abbrev pub decreases-push_value : goal.decreases-push_value
decreases-push_value l = 16 * goal.size-push_value l + 4

abbrev pub invariant-push_item_lines-loop-item : goal.invariant-push_item_lines-loop-item
invariant-push_item_lines-loop-item l = l.out.items ≡ l.fn.out.items ++ lines_text item_text l.indent (take l.item-index l.items)

abbrev pub invariant-push_node_lines-loop-node : goal.invariant-push_node_lines-loop-node
invariant-push_node_lines-loop-node l = l.out.items ≡ l.fn.out.items ++ lines_text node_text l.indent (take l.node-index l.nodes)

abbrev pub invariant-push_declaration_lines-loop-declaration : goal.invariant-push_declaration_lines-loop-declaration
invariant-push_declaration_lines-loop-declaration l = l.out.items ≡ l.fn.out.items ++ lines_text (declaration_text node_text) l.indent (take l.declaration-index l.declarations)

abbrev pub invariant-push_statement_lines-loop-statement : goal.invariant-push_statement_lines-loop-statement
invariant-push_statement_lines-loop-statement l = l.out.items ≡ l.fn.out.items ++ lines_text statement_text l.indent (take l.statement-index l.statements)
