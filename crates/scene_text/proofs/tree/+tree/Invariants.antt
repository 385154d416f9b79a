use Rattle.std.proofs.Common.{◌≡◌, ◌+◌, ◌*◌, map, take}
use Rattle.scene_text.specs.Tree.{each, field_tree, node_tree}
use Rattle.scene_text.specs.Views.{plan_of, shown_of}
use Rattle.scene_text.proofs.tree.+tree.Given as goal

-- The depth, and then the rank of the function: what it calls at the same depth is of a lower one.
abbrev pub decreases-node_tree : goal.decreases-node_tree
decreases-node_tree l = 8 * l.depth + 0

abbrev pub decreases-node_trees : goal.decreases-node_trees
decreases-node_trees l = 8 * l.depth + 1

abbrev pub decreases-node_list : goal.decreases-node_list
decreases-node_list l = 8 * l.depth + 2

abbrev pub decreases-value_tree : goal.decreases-value_tree
decreases-value_tree l = 8 * l.depth + 3

abbrev pub decreases-plain_tree : goal.decreases-plain_tree
decreases-plain_tree l = 8 * l.depth + 4

abbrev pub decreases-given_tree : goal.decreases-given_tree
decreases-given_tree l = 8 * l.depth + 4

abbrev pub decreases-declared_tree : goal.decreases-declared_tree
decreases-declared_tree l = 8 * l.depth + 5

abbrev pub decreases-field_tree : goal.decreases-field_tree
decreases-field_tree l = 8 * l.depth + 6

abbrev pub decreases-field_trees : goal.decreases-field_trees
decreases-field_trees l = 8 * l.depth + 7

abbrev pub invariant-field_trees-loop-field : goal.invariant-field_trees-loop-field
invariant-field_trees-loop-field l =
    record { seen = l.seen.items; made = l.items.items } ≡ each (field_tree (node_tree l.depth (plan_of l.plan))) l.fn.seen.items (take l.field-index (map shown_of l.shown))

abbrev pub invariant-node_trees-loop-node : goal.invariant-node_trees-loop-node
invariant-node_trees-loop-node l =
    record { seen = l.seen.items; made = l.trees.items } ≡ each (node_tree l.depth (plan_of l.plan)) l.fn.seen.items (take l.node-index l.nodes)
