use Rattle.laws_written.proofs.Resolving.{routes_resolve}
use Rattle.laws_written.proofs.RoutesWhole.{routes_stay}
use Rattle.laws_written.proofs.routes.written_routes_stay.Goals as goal

pub returns-clause-shown : goal.returns-clause-shown
returns-clause-shown c = routes_stay c.labels_are_distinct.ensures c.written_nodes_close.ensures c.routes_are_read.ensures

pub returns-clause-resolved : goal.returns-clause-resolved
returns-clause-resolved c = routes_resolve c.labels_are_distinct.ensures c.written_nodes_close.ensures c.routes_are_read.ensures
