use Rattle.std.proofs.Common.{rules, FitsSigned, List, ℤ, ◌++◌, ap, ◌∙◌, w64}
use Rattle.std.proofs.lemmas.Int.{to_z-of_z}
use Rattle.share_entries.specs.Entry.{EntryView}
use Rattle.share_logged.specs.Turn.{read_entries}
use Rattle.share_logged.proofs.Keeping.{read_fit}
use Rattle.share_pending.proofs.waiting.add_read.Goals as goal

pub read_entry-requires : goal.read_entry-requires
read_entry-requires c =
    let fits : FitsSigned w64 c.last-last.result = search rules in
    record {
      fits = rw (to_z-of_z w64 c.last-last.result fits) (rw c.last-last.ensures.value
          (read_fit c.args.host.now.mark c.args.host.now.part c.take-answer.new.host.part c.args.read.now c.take-answer.result c.last-last.ensures.from c.take-answer.ensures.step));
    }

pub returns-clause-entry : goal.returns-clause-entry
returns-clause-entry c =
    let fits : FitsSigned w64 c.last-last.result = search rules in
    let entry = rw (to_z-of_z w64 c.last-last.result fits) at c.read_entry.ensures in
    c.push_listed.ensures ∙ ap (λ (l : List EntryView). c.args.list.now.items ++ l) entry
    ∙ ap (λ (t : ℤ). c.args.list.now.items ++ read_entries t c.args.read.now c.take-answer.result) c.last-last.ensures.value
