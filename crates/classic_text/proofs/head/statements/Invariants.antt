use Rattle.std.proofs.Common.{◌≡◌, ◌-◌}
use Rattle.classic_text.specs.Grammar.{statements, statements_from}
use Rattle.classic_text.proofs.head.statements.Given as goal

abbrev pub invariant-loop-turn : goal.invariant-loop-turn
invariant-loop-turn l = statements l.fn.tokens ≡ statements_from (l._turn-end - l._turn) l.found l.tokens
