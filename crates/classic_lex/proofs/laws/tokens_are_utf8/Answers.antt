use Rattle.classic_lex.proofs.Utf8Lemmas.{IsUtf8-HasTokens}
use Rattle.classic_lex.proofs.laws.tokens_are_utf8.Goals as goal

pub returns : goal.returns
returns c = IsUtf8-HasTokens
