use Rattle.app_logs.proofs.Lasting.{open_lasts}
use Rattle.app_logs.proofs.beginning.with_new_host.Goals as goal

pub returns-in-Ok-clause-lasts : goal.returns-in-Ok-clause-lasts
returns-in-Ok-clause-lasts g c = λ clean.
    let f = c.args.log in
    open_lasts g.D.Disk.seen g.D.Disk.may_leave g.D.Disk.is_usable g.D.Disk.is_clean f.log f.start f.chain f.count f.is_open f.kept c.requires.open clean
