use Rattle.std.proofs.Common.{rules, ◌≤ℤ◌, pos, ℤ, FitsSigned, List, ◌++◌, ap, sym, subst, ◌∙◌, w64, length, ◌≤◌}
use Rattle.std.proofs.lemmas.Int.{to_z-of_z}
use Rattle.share_entries.specs.Entry.{EntryView}
use Rattle.share_turns.specs.HostTurn.{listed}
use Rattle.share_logged.specs.Notes.{last_after}
use Rattle.share_logged.specs.Turn.{clock_entries}
use Rattle.share_logged.proofs.Keeping.{clock_few, clock_fit, clock_last}
use Rattle.share_logged.proofs.gather.take_clock.Goals as goal

pub clock_entry-requires : goal.clock_entry-requires
clock_entry-requires c =
    let fits : FitsSigned w64 c.args.time = search rules in
    let step = rw (to_z-of_z w64 c.args.time fits) at c.clock-answer.ensures.step in
    let from = subst (λ (t : ℤ). pos 0 ≤ℤ t) c.requires.last c.requires.from in
    record { fits = rw (to_z-of_z w64 c.args.time fits) (clock_fit c.args.host.now.part c.clock-answer.new.self.part c.args.time c.clock-answer.result from step) }

pub returns-clause-step : goal.returns-clause-step
returns-clause-step c =
    let fits : FitsSigned w64 c.args.time = search rules in
    let step = rw (to_z-of_z w64 c.args.time fits) at c.clock-answer.ensures.step in
    let entry = rw (to_z-of_z w64 c.args.time fits) at c.clock_entry.ensures in
    let entries = c.add.ensures.entries ∙ ap (λ (l : List EntryView). l ++ listed c.clock_entry.result) c.requires.none ∙ entry in
    (c.clock-answer.result, step, c.after_clock.ensures.refused, entries)

pub returns-clause-last : goal.returns-clause-last
returns-clause-last c =
    let fits : FitsSigned w64 c.args.time = search rules in
    let step = rw (to_z-of_z w64 c.args.time fits) at c.clock-answer.ensures.step in
    let entry = rw (to_z-of_z w64 c.args.time fits) at c.clock_entry.ensures in
    c.add.ensures.last
    ∙ ap (λ (l : List EntryView). last_after c.args.pending.now.last l) entry
    ∙ ap (λ (t : ℤ). last_after t (clock_entries c.args.time c.clock-answer.result)) c.requires.last
    ∙ clock_last c.args.host.now.part c.clock-answer.new.self.part c.args.time c.clock-answer.result step

pub returns-clause-few : goal.returns-clause-few
returns-clause-few c =
    let fits : FitsSigned w64 c.args.time = search rules in
    let step = rw (to_z-of_z w64 c.args.time fits) at c.clock-answer.ensures.step in
    let entry = rw (to_z-of_z w64 c.args.time fits) at c.clock_entry.ensures in
    let entries = c.add.ensures.entries ∙ ap (λ (l : List EntryView). l ++ listed c.clock_entry.result) c.requires.none ∙ entry in
    subst (λ (l : List EntryView). length l ≤ 1) (sym entries) (clock_few c.args.host.now.part c.clock-answer.new.self.part c.args.time c.clock-answer.result step)
