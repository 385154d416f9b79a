use Rattle.laws_written.proofs.Whole.{all_again}
use Rattle.laws_written.proofs.again.written_scenes_are_again.Goals as goal

pub returns : goal.returns
returns c = all_again c.table_law.ensures.typed c.headers_are_kept.ensures c.labels_are_distinct.ensures c.values_are_typed.ensures.nodes c.fields_are_left_out.ensures.defaults c.written_nodes_close.ensures c.written_nodes_stay.ensures c.written_fields_stay.ensures
