use Rattle.std.proofs.Common.{◌∙◌, ◌+◌, ap}
use Rattle.share_turns.proofs.runs.kept_turn.Goals as goal

pub returns-clause-done : goal.returns-clause-done
returns-clause-done g c = record {
  left = c.hearing_turn.new.host.part;
  came = c.hearing_turn.new.heard;
  turn = rw (← c.rest.ensures.told, c.nobody-came.ensures) at c.in_ok-hearing_turn.ensures.turn;
  noted = c.note.new.self;
  heard = c.note.ensures;
  kept = c.drop_counted.ensures.part;
  millis = c.rest.result;
  rested = c.rest.ensures.time ∙ ap (λ n. n + c.rest.result) c.in_ok-hearing_turn.ensures.time;
  after = c.pass.ensures;
}

pub returns-clause-mark : goal.returns-clause-mark
returns-clause-mark g c = c.drop_counted.ensures.mark ∙ c.in_ok-hearing_turn.ensures.mark

pub returns-clause-failures : goal.returns-clause-failures
returns-clause-failures g c = c.rest.ensures.count ∙ c.in_ok-hearing_turn.ensures.failures
