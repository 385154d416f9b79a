use Rattle.laws_written.proofs.FieldsStaying.{all_stay}
use Rattle.laws_written.proofs.fields.written_fields_stay.Goals as goal

pub returns : goal.returns
returns c = all_stay c.shapes_stay.ensures c.nodes_tell_the_rest.ensures c.written_nodes_close.ensures c.written_nodes_stay.ensures
