use Rattle.std.proofs.Common.{rules, ◌≡◌, [], ◌∷◌, ap, ◌∙◌}
use Rattle.std.specs.Prelude.{Err, is_ok}
use Rattle.std.proofs.lemmas.List.{map-append}
use Rattle.share_wire.specs.Datagram.{datagram}
use Rattle.share_wire.specs.declared.message.Body.{Body}
use Rattle.share_law.specs.Viewer.{viewer_ask, viewer_resend}
use Rattle.share_turns.specs.Told.{counted}
use Rattle.share_core.specs.Viewer.{machine_of}
use Rattle.share_turns.specs.HostTurn.{listed}
use Rattle.share_turns.proofs.Sending.{are_sent_front, are_sent_one, are_sent_then}
use Rattle.share_turns.proofs.viewer.send_requests.Goals as goal

pub returns-clause-sent : goal.returns-clause-sent
returns-clause-sent g c =
    let v = c.args.viewer.now in
    let asked = are_sent_one c.send.result c.args.host (g.P.Port.told c.send_offer.new.port) (g.P.Port.told c.send.new.self) c.as_slice.result.now c.send.ensures.ok c.send.ensures.err in
    let ask = rw c.ask.ensures.bytes at (rw c.as_slice.ensures.value at asked) in
    rw (map-append (λ (body : Body). datagram (record { mark = v.mark; body = body })) (listed (viewer_resend v.who v.state 0)) (viewer_ask (machine_of v) v.who v.state ∷ []))
    (are_sent_then (is_ok c.send.result) c.args.host (g.P.Port.told c.args.port.now) (g.P.Port.told c.send_offer.new.port) (g.P.Port.told c.send.new.self) _ _ c.in_ok-send_offer.ensures.sent ask)

pub returns-in_err-send_offer-clause-sent : goal.returns-in_err-send_offer-clause-sent
returns-in_err-send_offer-clause-sent g c =
    let v = c.args.viewer.now in
    let failed : c.from_residual.result ≡ Err c.in_err-send_offer.field-0.0 = search rules in
    rw failed (rw (map-append (λ (body : Body). datagram (record { mark = v.mark; body = body })) (listed (viewer_resend v.who v.state 0)) (viewer_ask (machine_of v) v.who v.state ∷ []))
    (are_sent_front c.args.host (g.P.Port.told c.args.port.now) (g.P.Port.told c.send_offer.new.port) _ _ c.in_err-send_offer.ensures.sent))

pub returns-clause-failures : goal.returns-clause-failures
returns-clause-failures g c = c.send.ensures.failures ∙ ap (counted c.send.result) c.in_ok-send_offer.ensures.failures
