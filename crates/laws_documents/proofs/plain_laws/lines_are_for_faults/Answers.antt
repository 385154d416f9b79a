use Rattle.laws_documents.proofs.Lines.{lines_are_for_faults}
use Rattle.laws_documents.proofs.plain_laws.lines_are_for_faults.Goals as goal

pub returns : goal.returns
returns c = lines_are_for_faults
