use Rattle.std.proofs.Common.{◌+◌, ◌*◌, None, drop}
use Rattle.proto_meaning.specs.trees.Resolved.{AreItems, AreNodes, AreStatements}
use Rattle.proto_resolver.specs.Held.{taken_names}
use Rattle.proto_resolver.specs.Standing.{Resolves}
use Rattle.proto_resolver.specs.Parts.{Before, AreAllDefaults}
use Rattle.proto_resolver.proofs.+resolve.Given as goal

-- The depth of what is resolved, and then the rank of the function: what it calls with the same depth is of a lower one.
abbrev pub decreases-declarations::resolve_statement : goal.decreases-declarations::resolve_statement
decreases-declarations::resolve_statement l = 16 * goal.size-declarations::resolve_statement l + 0

abbrev pub decreases-walk::resolve_node : goal.decreases-walk::resolve_node
decreases-walk::resolve_node l = 16 * goal.size-walk::resolve_node l + 0

abbrev pub decreases-walk::resolve_full : goal.decreases-walk::resolve_full
decreases-walk::resolve_full l = 16 * goal.size-walk::resolve_full l + 5

abbrev pub decreases-walk::resolve_between : goal.decreases-walk::resolve_between
decreases-walk::resolve_between l = 16 * goal.size-walk::resolve_between l + 4

abbrev pub decreases-walk::resolve_items : goal.decreases-walk::resolve_items
decreases-walk::resolve_items l = 16 * goal.size-walk::resolve_items l + 3

abbrev pub decreases-walk::resolve_item : goal.decreases-walk::resolve_item
decreases-walk::resolve_item l = 16 * goal.size-walk::resolve_item l + 1

abbrev pub decreases-walk::resolve_field : goal.decreases-walk::resolve_field
decreases-walk::resolve_field l = 16 * goal.size-walk::resolve_field l + 8

abbrev pub decreases-walk::leave_out : goal.decreases-walk::leave_out
decreases-walk::leave_out l = 16 * goal.size-walk::leave_out l + 6

abbrev pub decreases-walk::resolve_given : goal.decreases-walk::resolve_given
decreases-walk::resolve_given l = 16 * goal.size-walk::resolve_given l + 7

abbrev pub decreases-walk::resolve_value : goal.decreases-walk::resolve_value
decreases-walk::resolve_value l = 16 * goal.size-walk::resolve_value l + 5

abbrev pub decreases-walk::resolve_nodes : goal.decreases-walk::resolve_nodes
decreases-walk::resolve_nodes l = 16 * goal.size-walk::resolve_nodes l + 3

abbrev pub decreases-declarations::resolve_proto : goal.decreases-declarations::resolve_proto
decreases-declarations::resolve_proto l = 16 * goal.size-declarations::resolve_proto l + 2

abbrev pub decreases-declarations::enter : goal.decreases-declarations::enter
decreases-declarations::enter l = 16 * goal.size-declarations::enter l + 1

abbrev pub decreases-declarations::resolve_inside : goal.decreases-declarations::resolve_inside
decreases-declarations::resolve_inside l = 16 * goal.size-declarations::resolve_inside l + 0

abbrev pub decreases-declarations::resolve_interface : goal.decreases-declarations::resolve_interface
decreases-declarations::resolve_interface l = 16 * goal.size-declarations::resolve_interface l + 10

abbrev pub decreases-declarations::resolve_defaults : goal.decreases-declarations::resolve_defaults
decreases-declarations::resolve_defaults l = 16 * goal.size-declarations::resolve_defaults l + 9

abbrev pub decreases-declarations::resolve_body : goal.decreases-declarations::resolve_body
decreases-declarations::resolve_body l = 16 * goal.size-declarations::resolve_body l + 3

abbrev pub invariant-walk::resolve_items-loop-item : goal.invariant-walk::resolve_items-loop-item
invariant-walk::resolve_items-loop-item l = Resolves l.fn.resolver l.resolver None (λ ps s r. Before (AreItems ps (taken_names l.taker)) l.items (drop l.item-index l.items) l.trees s r)

abbrev pub invariant-walk::resolve_nodes-loop-node : goal.invariant-walk::resolve_nodes-loop-node
invariant-walk::resolve_nodes-loop-node l = Resolves l.fn.resolver l.resolver None (λ ps s r. Before (AreNodes ps) l.nodes (drop l.node-index l.nodes) l.trees s r)

abbrev pub invariant-declarations::resolve_defaults-loop-declaration : goal.invariant-declarations::resolve_defaults-loop-declaration
invariant-declarations::resolve_defaults-loop-declaration l = Resolves l.fn.resolver l.resolver None (λ ps s r. Before (AreAllDefaults ps) l.interface (drop l.declaration-index l.interface) l.trees s r)

abbrev pub invariant-declarations::resolve_body-loop-statement : goal.invariant-declarations::resolve_body-loop-statement
invariant-declarations::resolve_body-loop-statement l = Resolves l.fn.resolver l.resolver None (λ ps s r. Before (AreStatements ps) l.body (drop l.statement-index l.body) l.trees s r)
