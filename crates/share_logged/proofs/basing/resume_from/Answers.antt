use Rattle.std.proofs.Common.{rules, Result, Ok, Err, IfOk, List, ℕ, ◌++◌}
use Rattle.share_entries.specs.Entry.{EntryView}
use Rattle.share_logged.specs.Bases.{IsBaseOf, part_from}
use Rattle.share_logged.specs.Following.{PartsMake}
use Rattle.share_logged.specs.Hosting.{LoggedView}
use Rattle.share_logged.specs.Making.{IsOfLog}
use Rattle.share_logged.specs.declared.fault.ResumeFault.{ResumeFault}
use Rattle.share_logged.proofs.Bases.{bases_stand}
use Rattle.share_logged.proofs.basing.resume_from.Goals as goal

if_ok : (r : Result LoggedView ResumeFault) (A B : LoggedView → Type 0) → ((h : LoggedView) → A h → B h) → IfOk r A → IfOk r B
if_ok (Ok h) A B f a = f h a
if_ok (Err e) A B f a = a

pub returns-clause-log : goal.returns-clause-log
returns-clause-log c =
    let base = c.args.base.now in
    let entries = c.args.entries.now in
    let made : IfOk c.follow.result (λ h. PartsMake (part_from base) entries h.part) = search rules in
    if_ok c.follow.result (λ h. PartsMake (part_from base) entries h.part)
    (λ h. (run : List ℕ) (viewers : ℕ) (below : List EntryView) → IsBaseOf run viewers below base → IsOfLog viewers (below ++ entries) h.part)
    (λ h is run viewers below of_log. bases_stand run viewers below entries base h.part of_log is) made
