use Rattle.laws_written.proofs.Documents.{document_scenes_spell}
use Rattle.laws_written.proofs.Written.{written_scenes_spell}
use Rattle.laws_written.proofs.text_laws.written_scenes_spell.Goals as goal

pub returns-clause-writable : goal.returns-clause-writable
returns-clause-writable c = written_scenes_spell

pub returns-clause-documents : goal.returns-clause-documents
returns-clause-documents c = document_scenes_spell
