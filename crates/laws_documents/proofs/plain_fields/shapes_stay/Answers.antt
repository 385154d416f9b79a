use Rattle.laws_documents.proofs.Shapes.{shapes_stay}
use Rattle.laws_documents.proofs.plain_fields.shapes_stay.Goals as goal

pub returns : goal.returns
returns c = shapes_stay
