use Rattle.classic_text.proofs.CursorLemmas.{strings_are_quoted}
use Rattle.classic_text.proofs.tokens.Tokens.sees_string.Goals as goal

pub returns : goal.returns
returns c = cc (c.sees.ensures, strings_are_quoted c.self.inside.text.now c.self.inside.rest.now c.self.invariant.0, c.self.view_is)
