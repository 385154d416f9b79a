use Rattle.classic_lex.proofs.TokenLemmas.{HasTokens-lexed, lexed-HasTokens}
use Rattle.classic_lex.proofs.laws.texts_have_the_tokens_that_are_read.Goals as goal

pub returns-clause-found : goal.returns-clause-found
returns-clause-found c = HasTokens-lexed

pub returns-clause-only : goal.returns-clause-only
returns-clause-only c = lexed-HasTokens
