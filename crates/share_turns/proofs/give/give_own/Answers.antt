use Rattle.std.proofs.Common.{rules, ◌≡◌, refl}
use Rattle.std.specs.Prelude.{Err}
use Rattle.share_turns.proofs.Giving.{gave, gave_cut, gave_none, none_sent}
use Rattle.share_turns.proofs.give.give_own.Goals as goal

pub returns-in_err-take_shot-clause-ended : goal.returns-in_err-take_shot-clause-ended
returns-in_err-take_shot-clause-ended g c =
    let failed : c.from_residual.result ≡ Err c.in_err-take_shot.field-0.0 = search rules in
    rw failed (gave_none c.args.viewer.now c.in_err-take_shot.field-0.0 c.args.to c.args.turns (g.P.Port.told c.args.port.now) c.args.bytes.now.items c.take_shot.new.bytes.items c.in_err-take_shot.ensures)

pub returns-in_err-take_shot-clause-failures : goal.returns-in_err-take_shot-clause-failures
returns-in_err-take_shot-clause-failures g c =
    let failed : c.from_residual.result ≡ Err c.in_err-take_shot.field-0.0 = search rules in
    rw failed (none_sent c.args.viewer.now c.in_err-take_shot.field-0.0 c.args.bytes.now.items c.take_shot.new.bytes.items (g.P.Port.failure_count c.args.port.now) (g.P.Port.failure_count c.args.port.now) c.in_err-take_shot.ensures refl)

pub returns-clause-done : goal.returns-clause-done
returns-clause-done g c =
    let shot = rw c.requires at c.in_ok-take_shot.ensures in
    let same : c.as_slice.result.now ≡ c.take_shot.new.bytes.items = search rules in
    gave c.args.viewer.now c.give_turns.result c.args.to c.args.turns (g.P.Port.told c.args.port.now) (g.P.Port.told c.give_turns.new.port) c.take_shot.new.bytes.items shot
    (rw (c.mark.ensures.value, same) at c.give_turns.ensures.done)

pub returns-clause-ended : goal.returns-clause-ended
returns-clause-ended g c =
    let shot = rw c.requires at c.in_ok-take_shot.ensures in
    let same : c.as_slice.result.now ≡ c.take_shot.new.bytes.items = search rules in
    gave_cut c.args.viewer.now c.give_turns.result c.args.to c.args.turns (g.P.Port.told c.args.port.now) (g.P.Port.told c.give_turns.new.port) c.take_shot.new.bytes.items shot
    (rw (c.mark.ensures.value, same) at c.give_turns.ensures.ended) c.give_turns.ensures.fault
