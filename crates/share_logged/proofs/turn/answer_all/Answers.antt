use Rattle.std.proofs.Common.{rules, ◌≡◌, true, refl, ap, subst, ◌∙◌, get_or}
use Rattle.std.specs.Prelude.{Err, None}
use Rattle.std.proofs.lemmas.List.{take_all}
use Rattle.share_law.specs.declared.reply.HostReply.TheVariants.{Asked}
use Rattle.share_logged.specs.declared.pending.Note.{Note}
use Rattle.share_logged.specs.Notes.{IsSentInTurn, sent_for_all}
use Rattle.share_logged.proofs.Sent.{item-self, numbered_at, sent_lost, sent_more, sent_none}
use Rattle.share_logged.proofs.turn.answer_all.Goals as goal

-- what stands for a note that isn't there
abbrev no_note : Note
no_note = record { to = 0; sender = None; reply = Asked 0 0 }

pub loop-note-init : goal.loop-note-init
loop-note-init g c = (sent_none (g.P.Port.told c.args.port.now), refl, refl)

pub loop-note-preserved : goal.loop-note-preserved
loop-note-preserved g c =
    let l = c.loop-note in
    let note : Note = get_or c.args.notes.now l.note-index no_note in
    let is = item-self c.args.notes.now l.note-index no_note c.loop-note-test.true in (
      sent_more c.args.host.now.mark c.args.host.now.part c.args.notes.now l.note-index note (g.P.Port.told c.args.port.now) (g.P.Port.told l.port) (g.P.Port.told c.answer_one.new.port)
          c.loop-note-test.true is l.invariant.0 c.in_ok-answer_one.ensures.sent,
      c.in_ok-answer_one.ensures.failures ∙ l.invariant.1,
      c.answer_one.ensures.time ∙ l.invariant.2,
    )

pub answer_one-requires : goal.answer_one-requires
answer_one-requires g c =
    let l = c.loop-note in
    let note : Note = get_or c.args.notes.now l.note-index no_note in
    numbered_at c.args.host.now.part c.args.notes.now l.note-index note c.loop-note-test.true (item-self c.args.notes.now l.note-index no_note c.loop-note-test.true) c.requires

pub returns-in_err-answer_one-clause-sent : goal.returns-in_err-answer_one-clause-sent
returns-in_err-answer_one-clause-sent g c =
    let l = c.loop-note in
    let failed : c.from_residual.result ≡ Err c.in_err-answer_one.field-0.0 = search rules in
    let note : Note = get_or c.args.notes.now l.note-index no_note in
    let is = item-self c.args.notes.now l.note-index no_note c.loop-note-test.true in
    rw failed (sent_lost c.args.host.now.mark c.args.host.now.part c.args.notes.now l.note-index note (g.P.Port.told c.args.port.now) (g.P.Port.told l.port) (g.P.Port.told c.answer_one.new.port)
    c.loop-note-test.true is l.invariant.0 c.in_err-answer_one.ensures.sent)

pub returns-clause-sent : goal.returns-clause-sent
returns-clause-sent g c =
    let l = c.loop-note in
    let all = ap (sent_for_all c.args.host.now.mark c.args.host.now.part) (take_all l.note-index c.args.notes.now (search rules)) in
    subst (IsSentInTurn true (g.P.Port.told c.args.port.now) (g.P.Port.told l.port)) all l.invariant.0

pub returns-in_err-answer_one-clause-time : goal.returns-in_err-answer_one-clause-time
returns-in_err-answer_one-clause-time g c = c.answer_one.ensures.time ∙ c.loop-note.invariant.2

pub returns-clause-time : goal.returns-clause-time
returns-clause-time g c = c.loop-note.invariant.2
