use Rattle.std.proofs.Common.{rules, ◌≡◌, refl}
use Rattle.std.specs.Prelude.{Ok, Err}
use Rattle.share_turns.specs.declared.fault.TurnFault.TheVariants.{Port}
use Rattle.share_turns.proofs.Turning.{exchange_refused, exchange_sent}
use Rattle.share_turns.proofs.host.answer.Goals as goal

pub returns-in_err-send_for-in-Ok-clause-exchange : goal.returns-in_err-send_for-in-Ok-clause-exchange
returns-in_err-send_for-in-Ok-clause-exchange g c =
    let failed : c.from_residual.result ≡ Err Port = search rules in
    let sent = rw (c.in-Ok.ensures.mark, c.sender_of.ensures) at c.in_err-send_for-in-Ok.ensures.sent in
    rw failed (exchange_sent (Err Port) c.in-Ok.reply c.args.host.now.mark c.args.host.now.part c.args.from c.args.read.now (g.P.Port.told c.args.port.now) (g.P.Port.told c.send_for.new.port)
    c.take.new.host.part c.in-Ok.ensures.step sent (1, refl))

pub returns-in_ok-send_for-in-Ok-clause-exchange : goal.returns-in_ok-send_for-in-Ok-clause-exchange
returns-in_ok-send_for-in-Ok-clause-exchange g c =
    let sent = rw (c.in-Ok.ensures.mark, c.sender_of.ensures) at c.in_ok-send_for-in-Ok.ensures.sent in
    exchange_sent (Ok tt) c.in-Ok.reply c.args.host.now.mark c.args.host.now.part c.args.from c.args.read.now (g.P.Port.told c.args.port.now) (g.P.Port.told c.send_for.new.port)
    c.take.new.host.part c.in-Ok.ensures.step sent (1, refl)

pub returns-in-Err-clause-exchange : goal.returns-in-Err-clause-exchange
returns-in-Err-clause-exchange g c =
    exchange_refused c.after_refusal.result c.in-Err.fault c.args.host.now.mark c.args.host.now.part c.args.from c.args.read.now (g.P.Port.told c.args.port.now)
    c.take.new.host.part c.in-Err.ensures.step c.after_refusal.ensures.refused c.after_refusal.ensures.fault
