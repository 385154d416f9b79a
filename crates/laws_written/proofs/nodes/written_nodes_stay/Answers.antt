use Rattle.laws_written.proofs.NodesStaying.{all_stay}
use Rattle.laws_written.proofs.nodes.written_nodes_stay.Goals as goal

pub returns : goal.returns
returns c = all_stay c.labels_are_distinct.ensures
