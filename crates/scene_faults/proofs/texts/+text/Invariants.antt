use Rattle.std.proofs.Common.{◌≡◌, ◌++◌, ◌+◌, ◌*◌, take}
use Rattle.std.specs.List.{flat_map}
use Rattle.scene_faults.specs.Texts.{default_blames, item, names_of, node, statement}
use Rattle.scene_faults.proofs.Walks.{by}
use Rattle.scene_faults.proofs.texts.+text.Given as goal

-- The depth of what is walked, and then the rank of the function: what it calls with the same depth is of a lower one.
abbrev pub decreases-push_given : goal.decreases-push_given
decreases-push_given l = 16 * goal.size-push_given l + 5

abbrev pub decreases-push_value : goal.decreases-push_value
decreases-push_value l = 16 * goal.size-push_value l + 4

abbrev pub decreases-push_nodes : goal.decreases-push_nodes
decreases-push_nodes l = 16 * goal.size-push_nodes l + 2

abbrev pub decreases-push_node : goal.decreases-push_node
decreases-push_node l = 16 * goal.size-push_node l + 0

abbrev pub decreases-push_items : goal.decreases-push_items
decreases-push_items l = 16 * goal.size-push_items l + 3

abbrev pub decreases-push_each_item : goal.decreases-push_each_item
decreases-push_each_item l = 16 * goal.size-push_each_item l + 2

abbrev pub decreases-push_item : goal.decreases-push_item
decreases-push_item l = 16 * goal.size-push_item l + 0

abbrev pub decreases-push_default : goal.decreases-push_default
decreases-push_default l = 16 * goal.size-push_default l + 6

abbrev pub decreases-push_defaults : goal.decreases-push_defaults
decreases-push_defaults l = 16 * goal.size-push_defaults l + 8

abbrev pub decreases-push_interface : goal.decreases-push_interface
decreases-push_interface l = 16 * goal.size-push_interface l + 9

abbrev pub decreases-push_proto : goal.decreases-push_proto
decreases-push_proto l = 16 * goal.size-push_proto l + 0

abbrev pub decreases-push_statements : goal.decreases-push_statements
decreases-push_statements l = 16 * goal.size-push_statements l + 3

abbrev pub decreases-push_each_statement : goal.decreases-push_each_statement
decreases-push_each_statement l = 16 * goal.size-push_each_statement l + 2

abbrev pub decreases-push_statement : goal.decreases-push_statement
decreases-push_statement l = 16 * goal.size-push_statement l + 0

abbrev pub invariant-push_nodes-loop-node : goal.invariant-push_nodes-loop-node
invariant-push_nodes-loop-node l = l.out ≡ l.fn.out ++ flat_map (λ n. node n (names_of l.outer)) (take l.node-index l.nodes)

abbrev pub invariant-push_each_item-loop-item : goal.invariant-push_each_item-loop-item
invariant-push_each_item-loop-item l = l.out ≡ l.fn.out ++ flat_map (λ i. (item i).blames (names_of l.outer)) (take l.item-index l.items)

abbrev pub invariant-push_defaults-loop-declaration : goal.invariant-push_defaults-loop-declaration
invariant-push_defaults-loop-declaration l = l.out ≡ l.fn.out ++ flat_map (default_blames by) (take l.declaration-index l.interface)

abbrev pub invariant-push_each_statement-loop-statement : goal.invariant-push_each_statement-loop-statement
invariant-push_each_statement-loop-statement l = l.out ≡ l.fn.out ++ flat_map (λ s. (statement s).blames (names_of l.outer)) (take l.statement-index l.statements)
