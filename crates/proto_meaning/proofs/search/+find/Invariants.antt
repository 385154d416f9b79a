use Rattle.std.proofs.Common.{◌≡◌, ◌+◌, ◌*◌, drop}
use Rattle.proto_meaning.specs.Sight.{each}
use Rattle.proto_meaning.specs.Flat.{item, node, statement}
use Rattle.proto_meaning.specs.Texts.{finds_given}
use Rattle.proto_meaning.proofs.search.+find.Given as goal

-- The depth of what is searched, and then the rank of the function: what it calls with the same depth is of a lower one.
abbrev pub decreases-find_inside : goal.decreases-find_inside
decreases-find_inside l = 16 * goal.size-find_inside l + 0

abbrev pub decreases-find_in_interface : goal.decreases-find_in_interface
decreases-find_in_interface l = 16 * goal.size-find_in_interface l + 9

abbrev pub decreases-find_in_body : goal.decreases-find_in_body
decreases-find_in_body l = 16 * goal.size-find_in_body l + 3

abbrev pub decreases-find_in_statement : goal.decreases-find_in_statement
decreases-find_in_statement l = 16 * goal.size-find_in_statement l + 0

abbrev pub decreases-find_in_proto : goal.decreases-find_in_proto
decreases-find_in_proto l = 16 * goal.size-find_in_proto l + 1

abbrev pub decreases-find_in_node : goal.decreases-find_in_node
decreases-find_in_node l = 16 * goal.size-find_in_node l + 0

abbrev pub decreases-find_in_full : goal.decreases-find_in_full
decreases-find_in_full l = 16 * goal.size-find_in_full l + 4

abbrev pub decreases-find_in_item : goal.decreases-find_in_item
decreases-find_in_item l = 16 * goal.size-find_in_item l + 0

abbrev pub decreases-find_in_given : goal.decreases-find_in_given
decreases-find_in_given l = 16 * goal.size-find_in_given l + 6

abbrev pub decreases-find_in_value : goal.decreases-find_in_value
decreases-find_in_value l = 16 * goal.size-find_in_value l + 5

abbrev pub decreases-find_in_nodes : goal.decreases-find_in_nodes
decreases-find_in_nodes l = 16 * goal.size-find_in_nodes l + 3

abbrev pub invariant-find_in_interface-loop-declaration : goal.invariant-find_in_interface-loop-declaration
invariant-find_in_interface-loop-declaration l = each (λ d. finds_given l.own d.given) l.interface l.fn.hidden ≡ each (λ d. finds_given l.own d.given) (drop l.declaration-index l.interface) l.hides

abbrev pub invariant-find_in_body-loop-statement : goal.invariant-find_in_body-loop-statement
invariant-find_in_body-loop-statement l = each (λ s. (statement s).1.finds l.own) l.body l.fn.hidden ≡ each (λ s. (statement s).1.finds l.own) (drop l.statement-index l.body) l.hides

abbrev pub invariant-find_in_full-loop-item : goal.invariant-find_in_full-loop-item
invariant-find_in_full-loop-item l = each (λ i. (item i).finds l.own) l.items l.fn.hidden ≡ each (λ i. (item i).finds l.own) (drop l.item-index l.items) l.hides

abbrev pub invariant-find_in_nodes-loop-node : goal.invariant-find_in_nodes-loop-node
invariant-find_in_nodes-loop-node l = each (λ n. (node n).finds l.own) l.nodes l.fn.hidden ≡ each (λ n. (node n).finds l.own) (drop l.node-index l.nodes) l.hides
