use Rattle.std.proofs.Common.{rules, ◌≡◌, ap, ◌∙◌}
use Rattle.std.specs.Prelude.{Err, is_ok}
use Rattle.std.proofs.lemmas.List.{map-append}
use Rattle.share_wire.specs.Datagram.{datagram}
use Rattle.share_wire.specs.declared.message.Body.{Body}
use Rattle.share_turns.specs.Told.{counted}
use Rattle.share_turns.specs.HostTurn.{acks_for, inputs_for}
use Rattle.share_turns.proofs.Sending.{are_sent_front, are_sent_then}
use Rattle.share_turns.proofs.host.send_for.Goals as goal

pub returns-clause-sent : goal.returns-clause-sent
returns-clause-sent g c =
    let host = c.args.host.now.part in
    rw (map-append (λ (body : Body). datagram (record { mark = c.args.host.now.mark; body = body })) (inputs_for host c.args.reply) (acks_for host c.args.sender))
    (are_sent_then (is_ok c.send_ack.result) c.args.to (g.P.Port.told c.args.port.now) (g.P.Port.told c.send_inputs.new.port) (g.P.Port.told c.send_ack.new.port) _ _ c.in_ok-send_inputs.ensures.sent c.send_ack.ensures.sent)

pub returns-in_err-send_inputs-clause-sent : goal.returns-in_err-send_inputs-clause-sent
returns-in_err-send_inputs-clause-sent g c =
    let host = c.args.host.now.part in
    let failed : c.from_residual.result ≡ Err c.in_err-send_inputs.field-0.0 = search rules in
    rw failed (rw (map-append (λ (body : Body). datagram (record { mark = c.args.host.now.mark; body = body })) (inputs_for host c.args.reply) (acks_for host c.args.sender))
    (are_sent_front c.args.to (g.P.Port.told c.args.port.now) (g.P.Port.told c.send_inputs.new.port) _ _ c.in_err-send_inputs.ensures.sent))

pub returns-clause-failures : goal.returns-clause-failures
returns-clause-failures g c = c.send_ack.ensures.failures ∙ ap (counted c.send_ack.result) c.in_ok-send_inputs.ensures.failures
