use Rattle.std.proofs.Common.{◌∙◌}
use Rattle.classic_lex.proofs.HeadLemmas.{HasVersion-answer, version_of-HasVersion}
use Rattle.classic_lex.proofs.header.version.Goals as goal

pub returns-clause-found : goal.returns-clause-found
returns-clause-found c = HasVersion-answer c.args.text.now c.head_version.result c.head_version.ensures.exact

pub returns-clause-only : goal.returns-clause-only
returns-clause-only c = λ version has. c.head_version.ensures.exact ∙ version_of-HasVersion c.args.text.now version has
