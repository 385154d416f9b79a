use Rattle.laws_written.proofs.Values.{written_nodes_are_typed, written_values_are_typed}
use Rattle.laws_written.proofs.text_laws.values_are_typed.Goals as goal

pub returns-clause-plain : goal.returns-clause-plain
returns-clause-plain c = written_values_are_typed

pub returns-clause-nodes : goal.returns-clause-nodes
returns-clause-nodes c = written_nodes_are_typed
