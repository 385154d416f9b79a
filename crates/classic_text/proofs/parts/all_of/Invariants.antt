use Rattle.std.proofs.Common.{◌≡◌, ◌-◌}
use Rattle.classic_text.specs.declared.terminal.Terminal.TheVariants as t
use Rattle.classic_text.specs.Grammar.{until, until_from}
use Rattle.classic_text.proofs.parts.all_of.Given as goal

abbrev pub invariant-loop-turn : goal.invariant-loop-turn
invariant-loop-turn g l = until t.CloseBracket g.T.Listed.parser l.fn.tokens ≡ until_from t.CloseBracket g.T.Listed.parser (l._turn-end - l._turn) l.found l.tokens
