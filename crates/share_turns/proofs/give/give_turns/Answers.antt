use Rattle.std.proofs.Common.{rules, ◌≡◌, ◌∙◌, arith}
use Rattle.share_turns.specs.Gives.{GiveTurnsEnd}
use Rattle.share_turns.proofs.Giving.{given_more}
use Rattle.share_turns.proofs.give.give_turns.Goals as goal

pub returns-in_err-give_turn-clause-ended : goal.returns-in_err-give_turn-clause-ended
returns-in_err-give_turn-clause-ended g c =
    let end : GiveTurnsEnd c.args.mark.now c.args.bytes.now c.args.to c.args.turns (g.P.Port.told c.args.port.now) (g.P.Port.told c.give_turn.new.port) =
    record {
      done = c.loop-turn.turn;
      fewer = omega (arith, c.loop-turn-test.true);
      between = _;
      before = c.loop-turn.invariant.0;
      last = c.in_err-give_turn.ensures.ended;
    } in
    search rules

pub loop-turn-preserved : goal.loop-turn-preserved
loop-turn-preserved g c = (
  given_more c.args.mark.now c.args.bytes.now c.args.to c.loop-turn.turn (g.P.Port.told c.args.port.now) (g.P.Port.told c.loop-turn.port) (g.P.Port.told c.give_turn.new.port)
      c.loop-turn.invariant.0 c.in_ok-give_turn.ensures.done,
  c.in_ok-give_turn.ensures.failures ∙ c.loop-turn.invariant.1,
)

pub returns-clause-done : goal.returns-clause-done
returns-clause-done g c =
    let all : c.loop-turn.turn ≡ c.args.turns = omega (arith, c.loop-turn-test.false) in
    rw all at c.loop-turn.invariant.0
