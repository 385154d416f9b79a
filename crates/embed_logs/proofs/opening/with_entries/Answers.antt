use Rattle.std.proofs.Common.{IsTrue, List, subst, sym}
use Rattle.share_entries.specs.Entry.{EntryView}
use Rattle.share_store.specs.OneLog.{Last}
use Rattle.share_file.specs.Keeping.{LeavesEntries}
use Rattle.share_file.specs.declared.append.FileLog.{FileLog}
use Rattle.embed_logs.proofs.Lasting.{all_last}
use Rattle.embed_logs.proofs.opening.with_entries.Goals as goal

pub returns-clause-lasts : goal.returns-clause-lasts
returns-clause-lasts g c =
    let f = c.args.opened.log in
    let held = c.of-log.result.entries.items in
    let lasts : IsTrue (g.D.Disk.is_clean f.log.disk) → Last (LeavesEntries f.start (g.D.Disk.may_leave f.log.disk)) c.args.opened.entries.items = λ clean.
    subst (λ (entries : List EntryView). Last (LeavesEntries f.start (g.D.Disk.may_leave f.log.disk)) entries) (c.requires.known clean)
    (all_last g.D.Disk.seen g.D.Disk.may_leave g.D.Disk.is_usable g.D.Disk.is_clean f.log f.start f.chain f.count f.is_open f.kept c.requires.open clean) in
    let kept : IsTrue (g.D.Disk.is_clean f.log.disk) → Last (LeavesEntries f.start (g.D.Disk.may_leave f.log.disk)) held =
    subst (λ (entries : List EntryView). IsTrue (g.D.Disk.is_clean f.log.disk) → Last (LeavesEntries f.start (g.D.Disk.may_leave f.log.disk)) entries) (sym c.of-log.ensures.entries) lasts in
    subst (λ (l : FileLog g.row.D.Denot g.D.Disk). IsTrue (g.D.Disk.is_clean l.log.disk) → Last (LeavesEntries l.start (g.D.Disk.may_leave l.log.disk)) held) (sym c.of-log.ensures.log) kept
