use Rattle.classic_lex.proofs.HeadLemmas.{HasVersion-one}
use Rattle.classic_lex.proofs.TokenLemmas.{HasTokens-one}
use Rattle.classic_lex.proofs.laws.texts_have_one_list_of_tokens.Goals as goal

pub returns-clause-version : goal.returns-clause-version
returns-clause-version c = HasVersion-one

pub returns-clause-tokens : goal.returns-clause-tokens
returns-clause-tokens c = HasTokens-one
