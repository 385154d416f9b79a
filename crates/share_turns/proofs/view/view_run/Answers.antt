use Rattle.std.proofs.Common.{rules, ◌≡◌, ◌-◌, inl, inr}
use Rattle.std.specs.Prelude.{Err}
use Rattle.share_turns.specs.declared.fault.SeriesFault.TheVariants.{Turn}
use Rattle.share_turns.proofs.Whole.{given_cut, has_viewed, run_done, same_both, same_rest, text_cut, view_cut}
use Rattle.share_turns.proofs.view.view_run.Goals as goal

pub returns-in_err-joining-clause-ended : goal.returns-in_err-joining-clause-ended
returns-in_err-joining-clause-ended g c =
    let failed : c.from_residual.result ≡ Err c.in_err-joining.field-0.0 = search rules in
    rw failed (inl c.in_err-joining.ensures.ended)

pub returns-in_err-viewing-clause-others : goal.returns-in_err-viewing-clause-others
returns-in_err-viewing-clause-others g c =
    same_both c.args.viewer.now c.begin.new.viewer c.view_until.new.viewer c.in_ok-joining.ensures.others c.in_err-viewing.ensures.others

pub returns-in_err-viewing-clause-ended : goal.returns-in_err-viewing-clause-ended
returns-in_err-viewing-clause-ended g c =
    let fault = c.in_err-viewing.field-0.0 in
    let failed : c.from_residual-in_err-viewing.result ≡ Err fault = search rules in
    rw failed (inr (inl (view_cut c.args.viewer.now c.begin.new.viewer c.view_until.new.viewer c.args.host c.args.points.now c.args.plan.now c.in_ok-joining.joining
    (g.P.Port.told c.args.port.now) (g.P.Port.told c.begin.new.port) (g.P.Port.told c.view_until.new.port) fault c.in_ok-joining.ensures.done c.in_err-viewing.ensures.ended)))

pub returns-in_err-end-clause-others : goal.returns-in_err-end-clause-others
returns-in_err-end-clause-others g c =
    same_both c.args.viewer.now c.begin.new.viewer c.forget_rest.new.viewer c.in_ok-joining.ensures.others
    (same_rest c.begin.new.viewer c.view_until.new.viewer c.forget_rest.new.viewer c.args.plan.now.forget c.in_ok-viewing.ensures.others c.forget_rest.ensures)

pub returns-in_err-end-clause-ended : goal.returns-in_err-end-clause-ended
returns-in_err-end-clause-ended g c =
    let fault = c.in_err-end.field-0.0 in
    let plan = c.args.plan.now in
    let left = plan.turns - c.in_ok-joining.joining - c.in_ok-viewing.viewing in
    let failed : c.from_residual-in_err-end.result ≡ Err (Turn fault) = search rules in
    let viewed = has_viewed c.args.viewer.now c.begin.new.viewer c.view_until.new.viewer c.forget_rest.new.viewer c.args.host c.args.points.now plan c.in_ok-joining.joining c.in_ok-viewing.viewing
    (g.P.Port.told c.args.port.now) (g.P.Port.told c.begin.new.port) (g.P.Port.told c.view_until.new.port) c.in_ok-joining.ensures.done c.in_ok-viewing.ensures.most c.in_ok-viewing.ensures.done c.in_ok-viewing.ensures.others c.forget_rest.ensures in
    rw failed (inr (inr (given_cut c.args.viewer.now c.forget_rest.new.viewer c.args.host c.args.points.now plan left
    (g.P.Port.told c.args.port.now) (g.P.Port.told c.view_until.new.port) (g.P.Port.told c.end.new.port) fault viewed c.in_err-end.ensures.ended)))

pub returns-in_err-push_texts-clause-others : goal.returns-in_err-push_texts-clause-others
returns-in_err-push_texts-clause-others g c =
    same_both c.args.viewer.now c.begin.new.viewer c.forget_rest.new.viewer c.in_ok-joining.ensures.others
    (same_rest c.begin.new.viewer c.view_until.new.viewer c.forget_rest.new.viewer c.args.plan.now.forget c.in_ok-viewing.ensures.others c.forget_rest.ensures)

pub returns-in_err-push_texts-clause-ended : goal.returns-in_err-push_texts-clause-ended
returns-in_err-push_texts-clause-ended g c =
    let fault = c.in_err-push_texts.field-0.0 in
    let plan = c.args.plan.now in
    let left = plan.turns - c.in_ok-joining.joining - c.in_ok-viewing.viewing in
    let failed : c.from_residual-in_err-push_texts.result ≡ Err (Turn fault) = search rules in
    let viewed = has_viewed c.args.viewer.now c.begin.new.viewer c.view_until.new.viewer c.forget_rest.new.viewer c.args.host c.args.points.now plan c.in_ok-joining.joining c.in_ok-viewing.viewing
    (g.P.Port.told c.args.port.now) (g.P.Port.told c.begin.new.port) (g.P.Port.told c.view_until.new.port) c.in_ok-joining.ensures.done c.in_ok-viewing.ensures.most c.in_ok-viewing.ensures.done c.in_ok-viewing.ensures.others c.forget_rest.ensures in
    rw failed (inr (inr (text_cut c.args.viewer.now c.forget_rest.new.viewer c.args.host c.args.points.now plan left
    (g.P.Port.told c.args.port.now) (g.P.Port.told c.view_until.new.port) (g.P.Port.told c.end.new.port) fault viewed c.in_ok-end.ensures.done c.in_err-push_texts.ensures.fault)))

pub returns-clause-others : goal.returns-clause-others
returns-clause-others g c =
    same_both c.args.viewer.now c.begin.new.viewer c.forget_rest.new.viewer c.in_ok-joining.ensures.others
    (same_rest c.begin.new.viewer c.view_until.new.viewer c.forget_rest.new.viewer c.args.plan.now.forget c.in_ok-viewing.ensures.others c.forget_rest.ensures)

pub returns-clause-done : goal.returns-clause-done
returns-clause-done g c =
    let plan = c.args.plan.now in
    let left = plan.turns - c.in_ok-joining.joining - c.in_ok-viewing.viewing in
    let viewed = has_viewed c.args.viewer.now c.begin.new.viewer c.view_until.new.viewer c.forget_rest.new.viewer c.args.host c.args.points.now plan c.in_ok-joining.joining c.in_ok-viewing.viewing
    (g.P.Port.told c.args.port.now) (g.P.Port.told c.begin.new.port) (g.P.Port.told c.view_until.new.port) c.in_ok-joining.ensures.done c.in_ok-viewing.ensures.most c.in_ok-viewing.ensures.done c.in_ok-viewing.ensures.others c.forget_rest.ensures in
    run_done c.args.viewer.now c.forget_rest.new.viewer c.args.host c.args.points.now plan left
    (g.P.Port.told c.args.port.now) (g.P.Port.told c.view_until.new.port) (g.P.Port.told c.end.new.port) c.args.out.now.items c.push_texts.new.out.items viewed c.in_ok-end.ensures.done c.in_ok-push_texts.ensures.ok
