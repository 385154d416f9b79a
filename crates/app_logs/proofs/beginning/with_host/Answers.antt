use Rattle.std.proofs.Common.{List, subst}
use Rattle.share_entries.specs.Entry.{EntryView}
use Rattle.app_logs.specs.Beginning.{IsNotResumed}
use Rattle.app_logs.proofs.Lasting.{open_lasts}
use Rattle.app_logs.proofs.beginning.with_host.Goals as goal

pub returns-in-Err-clause-refused : goal.returns-in-Err-clause-refused
returns-in-Err-clause-refused g c =
    subst (λ (es : List EntryView). IsNotResumed c.args.opened.head.viewers c.args.opened.base es c.in-Err.fault) c.deref.ensures.value c.in-Err.ensures.refused

pub returns-in-Ok-clause-lasts : goal.returns-in-Ok-clause-lasts
returns-in-Ok-clause-lasts g c = λ clean.
    let f = c.args.opened.log in
    open_lasts g.D.Disk.seen g.D.Disk.may_leave g.D.Disk.is_usable g.D.Disk.is_clean f.log f.start f.chain f.count f.is_open f.kept c.requires clean
