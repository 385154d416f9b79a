use Rattle.std.proofs.Common.{rules, arith}
use Rattle.std.proofs.lemmas.Grind.{common_steps}
use Rattle.classic_text.specs.Grammar.{statements, statements_from}
use Rattle.classic_text.proofs.Turns.{one_more, no_more}
use Rattle.classic_text.proofs.head.statements.Goals as goal

pub loop-turn-init : goal.loop-turn-init
unfolding statements
loop-turn-init c = first_of (search rules, grind (arith, common_steps))

pub returns-then-at_end : goal.returns-then-at_end
unfolding statements_from
returns-then-at_end c = let e = one_more (λ n. statements_from n c.loop-turn.found c.loop-turn.tokens) _ c.loop-turn._turn c.loop-turn-test.true c.loop-turn.invariant in first_of (search rules, grind (arith, common_steps))

pub returns-in_err-found : goal.returns-in_err-found
unfolding statements_from
returns-in_err-found c = let e = one_more (λ n. statements_from n c.loop-turn.found c.loop-turn.tokens) _ c.loop-turn._turn c.loop-turn-test.true c.loop-turn.invariant in first_of (search rules, grind (arith, common_steps))

pub loop-turn-preserved : goal.loop-turn-preserved
unfolding statements_from
loop-turn-preserved c = let e = one_more (λ n. statements_from n c.loop-turn.found c.loop-turn.tokens) _ c.loop-turn._turn c.loop-turn-test.true c.loop-turn.invariant in first_of (search rules, grind (arith, common_steps))

pub returns : goal.returns
unfolding statements_from
returns c = let e = no_more (λ n. statements_from n c.loop-turn.found c.loop-turn.tokens) _ c.loop-turn._turn c.loop-turn-test.false c.loop-turn.invariant in first_of (search rules, grind (arith, common_steps))
