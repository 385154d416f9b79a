use Rattle.classic_tree.specs.Writing.{document_text}
use Rattle.classic_round_trip.proofs.Documents.{spelled_by_text, within_limit}
use Rattle.classic_round_trip.proofs.laws.spellable_documents_are_written.Goals as goal

pub returns-clause-any_length : goal.returns-clause-any_length
returns-clause-any_length c = spelled_by_text

pub returns-clause-within : goal.returns-clause-within
returns-clause-within c = λ d h size. within_limit (document_text d) d (spelled_by_text d h) size
