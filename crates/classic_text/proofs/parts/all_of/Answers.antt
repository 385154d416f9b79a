use Rattle.std.proofs.Common.{◌≡◌, Err, inr, sym, ◌∙◌, rules}
use Rattle.classic_text.specs.declared.terminal.Terminal.TheVariants as t
use Rattle.classic_text.specs.Grammar.{until}
use Rattle.classic_text.proofs.Turns.{until_begins, until_ends, until_fails, until_goes_on, until_refuses}
use Rattle.classic_text.proofs.parts.all_of.Goals as goal

pub loop-turn-init : goal.loop-turn-init
loop-turn-init g c = until_begins t.CloseBracket g.T.Listed.parser c.args.tokens.now c.left-turn-end.result c.new-found.result c.left-turn-end.ensures c.new-found.ensures

pub returns-then-sees : goal.returns-then-sees
returns-then-sees g c = until_ends t.CloseBracket g.T.Listed.parser (until t.CloseBracket g.T.Listed.parser c.args.tokens.now) _ c.loop-turn._turn c.loop-turn.found c.loop-turn.tokens c.advance.new.self c.loop-turn-test.true c.loop-turn.invariant (sym c.sees.ensures ∙ c.if-sees.true) c.advance.ensures

pub returns-in_err-found : goal.returns-in_err-found
returns-in_err-found g c =
    let refused : c.from_residual.result ≡ Err c.in_err-found.field-0.0 = search rules in
    rw refused (until_fails t.CloseBracket g.T.Listed.parser (until t.CloseBracket g.T.Listed.parser c.args.tokens.now) _ c.loop-turn._turn c.loop-turn.found c.loop-turn.tokens c.read.new.tokens c.read.result _ c.loop-turn-test.true c.loop-turn.invariant (sym c.sees.ensures ∙ c.if-sees.false) c.read.ensures c.in_err-found.ensures.err)

pub loop-turn-preserved : goal.loop-turn-preserved
loop-turn-preserved g c =
    let e = c.in_ok-found.ensures.ok in
    until_goes_on t.CloseBracket g.T.Listed.parser (until t.CloseBracket g.T.Listed.parser c.args.tokens.now) _ c.loop-turn._turn c.loop-turn.found c.loop-turn.tokens c.read.new.tokens c.read.result e.0 _ c.loop-turn-test.true c.loop-turn.invariant (sym c.sees.ensures ∙ c.if-sees.false) c.read.ensures e.1 e.2

pub returns : goal.returns
returns g c = inr (until_refuses t.CloseBracket g.T.Listed.parser (until t.CloseBracket g.T.Listed.parser c.args.tokens.now) _ c.loop-turn._turn c.loop-turn.found c.loop-turn.tokens _ c.loop-turn-test.false c.loop-turn.invariant c.refuse.ensures)
