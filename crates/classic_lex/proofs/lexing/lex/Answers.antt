use Rattle.std.proofs.Common.{map}
use Rattle.classic_lex.specs.Lexed.{seen}
use Rattle.classic_lex.proofs.TokenLemmas.{HasTokens-Gives, Gives-HasTokens}
use Rattle.classic_lex.proofs.lexing.lex.Goals as goal

pub returns-clause-found : goal.returns-clause-found
returns-clause-found c = HasTokens-Gives (λ v. map (seen c.args.text.now) v.items) c.args.text.now c.tokens_of.result c.tokens_of.ensures.exact

pub returns-clause-only : goal.returns-clause-only
returns-clause-only c = Gives-HasTokens (λ v. map (seen c.args.text.now) v.items) c.args.text.now c.tokens_of.result c.tokens_of.ensures.exact
