use Rattle.std.proofs.Common.{rules, ◌≡◌, ap, ◌∙◌}
use Rattle.std.specs.Prelude.{Err}
use Rattle.share_turns.specs.declared.fault.SeriesFault.TheVariants.{Turn}
use Rattle.share_turns.specs.Gathers.{with_both}
use Rattle.share_turns.proofs.Gathering.{failures_of_turn, gather_cut, gather_joined, quiet}
use Rattle.share_turns.proofs.gather.gather_turn.Goals as goal

pub returns-in_err-gather_all-clause-turn : goal.returns-in_err-gather_all-clause-turn
returns-in_err-gather_all-clause-turn g c =
    let fault = c.in_err-gather_all.field-0.0 in
    let failed : c.from_residual.result ≡ Err (Turn fault) = search rules in
    rw failed (gather_cut c.args.viewer.now c.gather_all.new.viewer c.args.boot fault (g.P.Port.told c.args.port.now) (g.P.Port.told c.gather_all.new.port)
    c.in_err-gather_all.ensures.others c.in_err-gather_all.ensures.gathers)

pub returns-in_err-gather_all-clause-failures : goal.returns-in_err-gather_all-clause-failures
returns-in_err-gather_all-clause-failures g c =
    let fault = c.in_err-gather_all.field-0.0 in
    let failed : c.from_residual.result ≡ Err (Turn fault) = search rules in
    rw failed (failures_of_turn fault (g.P.Port.failure_count c.args.port.now) (g.P.Port.failure_count c.gather_all.new.port) c.in_err-gather_all.ensures.failures)

pub returns-clause-others : goal.returns-clause-others
returns-clause-others g c =
    let y = c.begin.new.viewer in
    c.begin.ensures.others ∙ ap (λ z. with_both z y.state y.gathering) c.in_ok-gather_all.ensures.others

pub returns-clause-turn : goal.returns-clause-turn
returns-clause-turn g c =
    gather_joined c.args.viewer.now c.gather_all.new.viewer c.begin.new.viewer c.args.boot c.begin.result (g.P.Port.told c.args.port.now) (g.P.Port.told c.gather_all.new.port)
    c.in_ok-gather_all.ensures.others c.in_ok-gather_all.ensures.gathers c.begin.ensures.begun

pub returns-clause-failures : goal.returns-clause-failures
returns-clause-failures g c =
    quiet c.gather_all.new.viewer c.args.boot c.begin.result c.begin.new.viewer.state c.begin.new.viewer.gathering
    (g.P.Port.failure_count c.args.port.now) (g.P.Port.failure_count c.gather_all.new.port) c.begin.ensures.begun c.in_ok-gather_all.ensures.failures
