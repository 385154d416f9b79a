use Rattle.std.proofs.Common.{subst}
use Rattle.x3d_lists.specs.Answers.{Gives}
use Rattle.classic_text.specs.Reading.{memory}
use Rattle.classic_text.proofs.Documents.{found_document, is_read}
use Rattle.classic_text.proofs.reading.read.Goals as goal

pub returns-clause-found : goal.returns-clause-found
returns-clause-found c = found_document c.args.text.now c.document.result c.document.ensures

pub returns-clause-only : goal.returns-clause-only
returns-clause-only c = λ d h. subst (λ answer. Gives memory (λ e. e) c.document.result answer) (is_read c.args.text.now d h) c.document.ensures
