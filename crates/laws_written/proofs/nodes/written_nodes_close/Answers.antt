use Rattle.laws_written.proofs.Closing.{all_close}
use Rattle.laws_written.proofs.nodes.written_nodes_close.Goals as goal

pub returns : goal.returns
returns c = all_close
