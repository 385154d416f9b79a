use Rattle.std.proofs.Common.{◌≡◌, ◌++◌, ◌+◌, ◌*◌, take}
use Rattle.classic_part.specs.Part.{kept_in, notes_in, item_part, node_part, declaration_part, statement_part}
use Rattle.classic_part.proofs.+part.Given as goal

-- The depth of what is walked, and then the rank of the function: what it calls with the same depth is of a lower one.
abbrev pub decreases-walk::declaration_part : goal.decreases-walk::declaration_part
decreases-walk::declaration_part l = 16 * goal.size-walk::declaration_part l + 6

abbrev pub decreases-lists::declarations_part : goal.decreases-lists::declarations_part
decreases-lists::declarations_part l = 16 * goal.size-lists::declarations_part l + 8

abbrev pub decreases-walk::field_part : goal.decreases-walk::field_part
decreases-walk::field_part l = 16 * goal.size-walk::field_part l + 8

abbrev pub decreases-walk::given_part : goal.decreases-walk::given_part
decreases-walk::given_part l = 16 * goal.size-walk::given_part l + 5

abbrev pub decreases-walk::item_part : goal.decreases-walk::item_part
decreases-walk::item_part l = 16 * goal.size-walk::item_part l + 0

abbrev pub decreases-lists::items_part : goal.decreases-lists::items_part
decreases-lists::items_part l = 16 * goal.size-lists::items_part l + 2

abbrev pub decreases-walk::named_part : goal.decreases-walk::named_part
decreases-walk::named_part l = 16 * goal.size-walk::named_part l + 6

abbrev pub decreases-walk::node_part : goal.decreases-walk::node_part
decreases-walk::node_part l = 16 * goal.size-walk::node_part l + 0

abbrev pub decreases-lists::nodes_part : goal.decreases-lists::nodes_part
decreases-lists::nodes_part l = 16 * goal.size-lists::nodes_part l + 2

abbrev pub decreases-walk::proto_part : goal.decreases-walk::proto_part
decreases-walk::proto_part l = 16 * goal.size-walk::proto_part l + 0

abbrev pub decreases-walk::ruled_part : goal.decreases-walk::ruled_part
decreases-walk::ruled_part l = 16 * goal.size-walk::ruled_part l + 7

abbrev pub decreases-walk::statement_part : goal.decreases-walk::statement_part
decreases-walk::statement_part l = 16 * goal.size-walk::statement_part l + 0

abbrev pub decreases-lists::statements_part : goal.decreases-lists::statements_part
decreases-lists::statements_part l = 16 * goal.size-lists::statements_part l + 2

abbrev pub decreases-walk::value_part : goal.decreases-walk::value_part
decreases-walk::value_part l = 16 * goal.size-walk::value_part l + 4

abbrev pub invariant-lists::items_part-loop-item : goal.invariant-lists::items_part-loop-item
invariant-lists::items_part-loop-item l =
    (l.kept ≡ kept_in (λ i. item_part l.known i l.meant) (take l.item-index l.items))
    × (l.notes ≡ l.fn.notes ++ notes_in (λ i. item_part l.known i l.meant) (take l.item-index l.items))

abbrev pub invariant-lists::nodes_part-loop-node : goal.invariant-lists::nodes_part-loop-node
invariant-lists::nodes_part-loop-node l =
    (l.kept ≡ kept_in (λ n. node_part l.known n l.field) (take l.node-index l.nodes))
    × (l.notes ≡ l.fn.notes ++ notes_in (λ n. node_part l.known n l.field) (take l.node-index l.nodes))

abbrev pub invariant-lists::declarations_part-loop-declaration : goal.invariant-lists::declarations_part-loop-declaration
invariant-lists::declarations_part-loop-declaration l =
    (l.kept ≡ kept_in (declaration_part (λ field n. node_part l.known n field) l.known) (take l.declaration-index l.declarations))
    × (l.notes ≡ l.fn.notes ++ notes_in (declaration_part (λ field n. node_part l.known n field) l.known) (take l.declaration-index l.declarations))

abbrev pub invariant-lists::statements_part-loop-statement : goal.invariant-lists::statements_part-loop-statement
invariant-lists::statements_part-loop-statement l =
    (l.kept ≡ kept_in (statement_part l.known) (take l.statement-index l.statements))
    × (l.notes ≡ l.fn.notes ++ notes_in (statement_part l.known) (take l.statement-index l.statements))
