-- proofs/laws/written_scenes_exist/Answers.antt
use Rattle.laws_written.proofs.ExistWhole.{all_exist}
use Rattle.laws_written.proofs.existing.written_scenes_exist.Goals as goal

pub returns : goal.returns
returns c = all_exist c.table_law.ensures.typed c.values_are_typed.ensures.nodes c.fields_are_left_out.ensures.defaults c.fields_are_left_out.ensures.all c.written_nodes_close.ensures c.written_nodes_stay.ensures c.written_fields_stay.ensures
