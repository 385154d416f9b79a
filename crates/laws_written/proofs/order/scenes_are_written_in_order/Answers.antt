use Rattle.laws_written.proofs.Orders.{helpers_in_order, nodes_in_order, roots_in_order}
use Rattle.laws_written.proofs.order.scenes_are_written_in_order.Goals as goal

pub returns-clause-nodes : goal.returns-clause-nodes
returns-clause-nodes c = nodes_in_order

pub returns-clause-roots : goal.returns-clause-roots
returns-clause-roots c = roots_in_order

pub returns-clause-helpers : goal.returns-clause-helpers
returns-clause-helpers c = helpers_in_order
