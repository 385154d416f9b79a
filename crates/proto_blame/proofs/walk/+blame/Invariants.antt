use Rattle.std.proofs.Common.{◌≡◌, ◌+◌, ◌*◌, map, take}
use Rattle.proto_blame.specs.Blamed.{kept_in, declaration_blamed, item_blamed, node_blamed, statement_blamed}
use Rattle.proto_blame.proofs.walk.+blame.Given as goal

-- The depth of what is walked, and then the rank of the function: what it calls with the same depth is of a lower one.
abbrev pub decreases-declaration_blamed : goal.decreases-declaration_blamed
decreases-declaration_blamed l = 16 * goal.size-declaration_blamed l + 6

abbrev pub decreases-declarations_blamed : goal.decreases-declarations_blamed
decreases-declarations_blamed l = 16 * goal.size-declarations_blamed l + 8

abbrev pub decreases-given_blamed : goal.decreases-given_blamed
decreases-given_blamed l = 16 * goal.size-given_blamed l + 5

abbrev pub decreases-item_blamed : goal.decreases-item_blamed
decreases-item_blamed l = 16 * goal.size-item_blamed l + 0

abbrev pub decreases-items_blamed : goal.decreases-items_blamed
decreases-items_blamed l = 16 * goal.size-items_blamed l + 2

abbrev pub decreases-node_blamed : goal.decreases-node_blamed
decreases-node_blamed l = 16 * goal.size-node_blamed l + 0

abbrev pub decreases-nodes_blamed : goal.decreases-nodes_blamed
decreases-nodes_blamed l = 16 * goal.size-nodes_blamed l + 2

abbrev pub decreases-proto_blamed : goal.decreases-proto_blamed
decreases-proto_blamed l = 16 * goal.size-proto_blamed l + 0

abbrev pub decreases-statement_blamed : goal.decreases-statement_blamed
decreases-statement_blamed l = 16 * goal.size-statement_blamed l + 0

abbrev pub decreases-statements_blamed : goal.decreases-statements_blamed
decreases-statements_blamed l = 16 * goal.size-statements_blamed l + 2

abbrev pub decreases-value_blamed : goal.decreases-value_blamed
decreases-value_blamed l = 16 * goal.size-value_blamed l + 4

abbrev pub invariant-items_blamed-loop-item : goal.invariant-items_blamed-loop-item
invariant-items_blamed-loop-item l =
    l.kept ≡ kept_in (λ i. item_blamed i l.line) (take l.item-index l.items)

abbrev pub invariant-nodes_blamed-loop-node : goal.invariant-nodes_blamed-loop-node
invariant-nodes_blamed-loop-node l =
    l.kept ≡ kept_in (λ n. node_blamed n l.line) (take l.node-index l.nodes)

abbrev pub invariant-declarations_blamed-loop-declaration : goal.invariant-declarations_blamed-loop-declaration
invariant-declarations_blamed-loop-declaration l =
    l.kept ≡ map (declaration_blamed (λ l n. node_blamed n l)) (take l.declaration-index l.declarations)

abbrev pub invariant-statements_blamed-loop-statement : goal.invariant-statements_blamed-loop-statement
invariant-statements_blamed-loop-statement l =
    l.kept ≡ kept_in statement_blamed (take l.statement-index l.statements)
