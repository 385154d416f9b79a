-- The nodes of a document without instances have the shapes that stand in its tree.
use Rattle.std.proofs.Common.{map, ap, sym, ◌∙◌}
use Rattle.laws_documents.proofs.ShapeTrees.{closed_as, nodes_as, texts_have_shapes}
use Rattle.laws_documents.specs.PlainLaws.{ShapesStay}
use Rattle.laws_documents.proofs.FieldWhole.{fields_are_read}

pub shapes_stay : ShapesStay
shapes_stay d f k e = sym (nodes_as f.nodes) ∙ ap (map closed_as) (fields_are_read d f k e) ∙ texts_have_shapes d
