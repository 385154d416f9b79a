use Rattle.std.proofs.Common.{rules, FitsSigned, List, ◌++◌, ap, ◌∙◌, w64}
use Rattle.std.proofs.lemmas.Int.{to_z-of_z}
use Rattle.share_entries.specs.Entry.{EntryView}
use Rattle.share_logged.proofs.Keeping.{clock_fit}
use Rattle.share_pending.proofs.waiting.add_clock.Goals as goal

pub clock_entry-requires : goal.clock_entry-requires
clock_entry-requires c =
    let fits : FitsSigned w64 c.args.time = search rules in
    let step = rw (to_z-of_z w64 c.args.time fits) at c.clock-answer.ensures.step in
    record { fits = rw (to_z-of_z w64 c.args.time fits) (clock_fit c.args.host.now.part c.clock-answer.new.self.part c.args.time c.clock-answer.result c.last-last.ensures.from step) }

pub returns-clause-step : goal.returns-clause-step
returns-clause-step c =
    let fits : FitsSigned w64 c.args.time = search rules in
    rw (to_z-of_z w64 c.args.time fits) at c.clock-answer.ensures.step

pub returns-clause-entry : goal.returns-clause-entry
returns-clause-entry c =
    let fits : FitsSigned w64 c.args.time = search rules in
    let entry = rw (to_z-of_z w64 c.args.time fits) at c.clock_entry.ensures in
    c.push_listed.ensures ∙ ap (λ (l : List EntryView). c.args.list.now.items ++ l) entry
