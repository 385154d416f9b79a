use Rattle.std.proofs.Common.{◌+◌, ◌*◌}
use Rattle.tests_basics.proofs.tests.resolving.+mark.Given as goal

-- The depth of what is marked, and then the rank of the function: what it calls with the same depth is of a lower one.
abbrev pub decreases-mark_node : goal.decreases-mark_node
decreases-mark_node l = 16 * goal.size-mark_node l + 0

abbrev pub decreases-mark_full : goal.decreases-mark_full
decreases-mark_full l = 16 * goal.size-mark_full l + 3

abbrev pub decreases-mark_item : goal.decreases-mark_item
decreases-mark_item l = 16 * goal.size-mark_item l + 0

abbrev pub decreases-mark_given : goal.decreases-mark_given
decreases-mark_given l = 16 * goal.size-mark_given l + 6

abbrev pub decreases-mark_nodes : goal.decreases-mark_nodes
decreases-mark_nodes l = 16 * goal.size-mark_nodes l + 3
