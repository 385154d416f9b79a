use Rattle.laws_written.proofs.FieldsDocuments.{all_written}
use Rattle.laws_written.proofs.fields.written_shapes.Goals as goal

pub returns : goal.returns
returns c = all_written
