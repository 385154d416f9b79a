use Rattle.laws_documents.proofs.FieldWhole.{fields_are_read}
use Rattle.laws_documents.proofs.plain_fields.fields_are_read.Goals as goal

pub returns : goal.returns
returns c = fields_are_read
