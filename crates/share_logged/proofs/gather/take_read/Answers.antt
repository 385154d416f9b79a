use Rattle.std.proofs.Common.{rules, ◌≤ℤ◌, FitsSigned, ℤ, ℕ, pos, List, ◌++◌, ap, sym, subst, ◌∙◌, w64}
use Rattle.std.specs.Prelude.{Option}
use Rattle.std.proofs.lemmas.Int.{to_z-of_z}
use Rattle.share_entries.specs.Entry.{EntryView}
use Rattle.share_logged.specs.declared.pending.Note.{Note}
use Rattle.share_logged.specs.Notes.{AllNumbered, last_after, noted}
use Rattle.share_logged.specs.Turn.{read_entries}
use Rattle.share_logged.proofs.Gathering.{all_numbered_append, all_numbered_then, noted_numbered}
use Rattle.share_logged.proofs.Keeping.{read_count, read_fit, read_last}
use Rattle.share_logged.proofs.gather.take_read.Goals as goal

pub read_entry-requires : goal.read_entry-requires
read_entry-requires c =
    let fits : FitsSigned w64 c.args.pending.now.last = search rules in
    let from = subst (λ (t : ℤ). pos 0 ≤ℤ t) c.requires.last c.requires.from in
    record {
      fits = rw (to_z-of_z w64 c.args.pending.now.last fits) (rw c.requires.last
          (read_fit c.args.host.now.mark c.args.host.now.part c.take-answer.new.host.part c.args.read.now c.take-answer.result from c.take-answer.ensures.step));
    }

pub returns-clause-last : goal.returns-clause-last
returns-clause-last c =
    let fits : FitsSigned w64 c.args.pending.now.last = search rules in
    let entry = rw (to_z-of_z w64 c.args.pending.now.last fits) at c.read_entry.ensures in
    c.note.ensures.last ∙ c.add.ensures.last
    ∙ ap (λ (l : List EntryView). last_after c.args.pending.now.last l) entry
    ∙ ap (λ (t : ℤ). last_after t (read_entries t c.args.read.now c.take-answer.result)) c.requires.last
    ∙ read_last c.args.host.now.mark c.args.host.now.part c.take-answer.new.host.part c.args.read.now c.take-answer.result c.take-answer.ensures.step

pub returns-clause-numbered : goal.returns-clause-numbered
returns-clause-numbered c =
    let q = c.take-answer.new.host.part in
    let before = c.args.pending.now.notes.items in
    let more = noted c.args.from c.sender_of.result c.take-answer.result in
    let count = read_count c.args.host.now.mark c.args.host.now.part q c.args.read.now c.take-answer.result c.take-answer.ensures.step in
    let notes = c.note.ensures.notes ∙ ap (λ (l : List Note). l ++ more) c.add.ensures.notes in
    subst (AllNumbered q) (sym notes)
    (all_numbered_append q before more (all_numbered_then c.args.host.now.part q before count c.requires.numbered)
    (noted_numbered q c.args.from c.sender_of.result c.take-answer.result c.take-answer.ensures.asked))

pub returns-clause-noted : goal.returns-clause-noted
returns-clause-noted c =
    let fits : FitsSigned w64 c.args.pending.now.last = search rules in
    let entry = rw (to_z-of_z w64 c.args.pending.now.last fits) at c.read_entry.ensures in
    record {
      answer = c.take-answer.result;
      took = c.take-answer.ensures.step;
      numbered =
          c.note.ensures.entries ∙ c.add.ensures.entries
          ∙ ap (λ (l : List EntryView). c.args.pending.now.entries ++ l) entry
          ∙ ap (λ (t : ℤ). c.args.pending.now.entries ++ read_entries t c.args.read.now c.take-answer.result) c.requires.last;
      noted =
          c.note.ensures.notes ∙ ap (λ (l : List Note). l ++ noted c.args.from c.sender_of.result c.take-answer.result) c.add.ensures.notes
          ∙ ap (λ (s : Option ℕ). c.args.pending.now.notes.items ++ noted c.args.from s c.take-answer.result) c.sender_of.ensures;
      refused = c.note.ensures.refused;
    }
