use Rattle.std.proofs.Common.{rules, ◌≡◌}
use Rattle.std.specs.Prelude.{Err, is_ok}
use Rattle.share_logged.specs.Notes.{sent_for_all}
use Rattle.share_logged.proofs.Sent.{sent_after, sent_nothing}
use Rattle.share_logged.proofs.turn.learn_and_answer.Goals as goal

pub returns-in_err-learn-clause-sent : goal.returns-in_err-learn-clause-sent
returns-in_err-learn-clause-sent g c =
    let failed : c.from_residual.result ≡ Err c.in_err-learn.field-0.0 = search rules in
    rw failed (sent_nothing (g.P.Port.told c.args.port.now) (g.P.Port.told c.learn.new.self) (sent_for_all c.args.host.now.mark c.args.host.now.part c.args.pending.now.notes.items) c.learn.ensures.told)

pub returns-clause-sent : goal.returns-clause-sent
returns-clause-sent g c =
    let sent = rw c.as_slice-2.ensures.value at c.answer_all.ensures.sent in
    sent_after (is_ok c.answer_all.result) (g.P.Port.told c.args.port.now) (g.P.Port.told c.learn.new.self) (g.P.Port.told c.answer_all.new.port)
    (sent_for_all c.args.host.now.mark c.args.host.now.part c.args.pending.now.notes.items) c.learn.ensures.told sent
