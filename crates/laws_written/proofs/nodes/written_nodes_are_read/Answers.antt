use Rattle.laws_written.proofs.NodesWhole.{all_read}
use Rattle.laws_written.proofs.nodes.written_nodes_are_read.Goals as goal

pub returns : goal.returns
returns c = all_read c.labels_are_distinct.ensures
