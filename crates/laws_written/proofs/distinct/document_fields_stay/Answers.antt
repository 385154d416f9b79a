use Rattle.laws_written.proofs.DistinctScenes.{fields_stay}
use Rattle.laws_written.proofs.distinct.document_fields_stay.Goals as goal

pub returns : goal.returns
returns c = fields_stay c.fields_are_distinct.ensures c.written_fields_stay.ensures
