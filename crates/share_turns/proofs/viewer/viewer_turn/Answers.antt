use Rattle.std.proofs.Common.{rules, ◌≡◌, refl, ap, sym, ◌∙◌}
use Rattle.std.specs.Prelude.{Ok, Err}
use Rattle.share_turns.specs.Told.{one_more}
use Rattle.share_core.specs.Viewer.{with_state}
use Rattle.share_turns.specs.declared.fault.TurnFault.TheVariants.{Port}
use Rattle.share_turns.proofs.Taking.{failures_kept, turn_sent, turn_stopped, unless_running, unless_spoiled, while_running, while_spoiled}
use Rattle.share_turns.proofs.viewer.viewer_turn.Goals as goal

pub returns-then-spoiled-clause-spoiled : goal.returns-then-spoiled-clause-spoiled
returns-then-spoiled-clause-spoiled g c =
    while_spoiled c.args.viewer.now.state.view _ (refl, refl, refl)

pub returns-then-spoiled-clause-turn : goal.returns-then-spoiled-clause-turn
returns-then-spoiled-clause-turn g c =
    unless_running c.args.viewer.now.state.view _ (sym c.spoiled.ensures ∙ c.if-spoiled.true)

pub returns-in_err-take_all-clause-turn : goal.returns-in_err-take_all-clause-turn
returns-in_err-take_all-clause-turn g c =
    let failed : c.from_residual.result ≡ Err c.in_err-take_all.field-0.0 = search rules in
    rw failed (while_running c.args.viewer.now.state.view _
    (turn_stopped c.args.viewer.now c.offer-offered.new.viewer c.args.host c.args.point c.offer-offered.result (g.P.Port.told c.args.port.now) (g.P.Port.told c.take_all.new.port)
    c.in_err-take_all.field-0.0 c.take_all.new.viewer.state c.offer-offered.ensures.others c.offer-offered.ensures.offered c.in_err-take_all.ensures.takes))

pub returns-in_err-take_all-clause-others : goal.returns-in_err-take_all-clause-others
returns-in_err-take_all-clause-others g c =
    c.in_err-take_all.ensures.others ∙ ap (λ v. with_state v c.take_all.new.viewer.state) c.offer-offered.ensures.others

pub returns-in_err-take_all-clause-spoiled : goal.returns-in_err-take_all-clause-spoiled
returns-in_err-take_all-clause-spoiled g c =
    unless_spoiled c.args.viewer.now.state.view _ (sym c.spoiled.ensures ∙ c.if-spoiled.false)

pub returns-in_err-send_requests-clause-others : goal.returns-in_err-send_requests-clause-others
returns-in_err-send_requests-clause-others g c =
    c.in_ok-take_all.ensures.others ∙ ap (λ v. with_state v c.take_all.new.viewer.state) c.offer-offered.ensures.others

pub returns-in_err-send_requests-clause-spoiled : goal.returns-in_err-send_requests-clause-spoiled
returns-in_err-send_requests-clause-spoiled g c =
    unless_spoiled c.args.viewer.now.state.view _ (sym c.spoiled.ensures ∙ c.if-spoiled.false)

pub returns-clause-others : goal.returns-clause-others
returns-clause-others g c =
    c.in_ok-take_all.ensures.others ∙ ap (λ v. with_state v c.take_all.new.viewer.state) c.offer-offered.ensures.others

pub returns-clause-spoiled : goal.returns-clause-spoiled
returns-clause-spoiled g c =
    unless_spoiled c.args.viewer.now.state.view _ (sym c.spoiled.ensures ∙ c.if-spoiled.false)

pub returns-in_err-take_all-clause-failures : goal.returns-in_err-take_all-clause-failures
returns-in_err-take_all-clause-failures g c =
    let failed : c.from_residual.result ≡ Err c.in_err-take_all.field-0.0 = search rules in
    rw failed (failures_kept c.in_err-take_all.field-0.0 (g.P.Port.failure_count c.args.port.now) (g.P.Port.failure_count c.take_all.new.port) c.in_err-take_all.ensures.failures)

pub returns-in_err-send_requests-clause-turn : goal.returns-in_err-send_requests-clause-turn
returns-in_err-send_requests-clause-turn g c =
    let failed : c.from_residual-in_err-send_requests.result ≡ Err Port = search rules in
    rw failed (while_running c.args.viewer.now.state.view _
    (turn_sent c.args.viewer.now c.offer-offered.new.viewer c.take_all.new.viewer c.args.host c.args.point c.offer-offered.result
    (g.P.Port.told c.args.port.now) (g.P.Port.told c.take_all.new.port) (g.P.Port.told c.send_requests.new.port) (Err Port)
    c.offer-offered.ensures.others c.offer-offered.ensures.offered c.in_ok-take_all.ensures.others c.in_ok-take_all.ensures.takes c.in_err-send_requests.ensures.sent tt (0, refl)))

pub returns-in_err-send_requests-clause-failures : goal.returns-in_err-send_requests-clause-failures
returns-in_err-send_requests-clause-failures g c =
    let failed : c.from_residual-in_err-send_requests.result ≡ Err Port = search rules in
    rw failed (c.in_err-send_requests.ensures.failures ∙ ap one_more c.in_ok-take_all.ensures.failures)

pub returns-clause-turn : goal.returns-clause-turn
returns-clause-turn g c =
    while_running c.args.viewer.now.state.view _
    (turn_sent c.args.viewer.now c.offer-offered.new.viewer c.take_all.new.viewer c.args.host c.args.point c.offer-offered.result
    (g.P.Port.told c.args.port.now) (g.P.Port.told c.take_all.new.port) (g.P.Port.told c.send_requests.new.port) (Ok c.offer-offered.result)
    c.offer-offered.ensures.others c.offer-offered.ensures.offered c.in_ok-take_all.ensures.others c.in_ok-take_all.ensures.takes c.in_ok-send_requests.ensures.sent refl (0, refl))

pub returns-clause-failures : goal.returns-clause-failures
returns-clause-failures g c =
    c.in_ok-send_requests.ensures.failures ∙ c.in_ok-take_all.ensures.failures
