use Rattle.std.proofs.Common.{◌+◌, length, Err, refl, ◌∙◌, ap}
use Rattle.share_store.specs.declared.fault.AppendFault.{AppendFault}
use Rattle.share_file.specs.declared.append.FileLog.{FileLog}
use Rattle.share_file.proofs.Keeping.{stored, doubted, same_made, to_old}
use Rattle.share_file.proofs.append.FileLog.store.Goals as goal

pub invariant_of-self : goal.invariant_of-self
invariant_of-self g c =
    let f = c.args.self.now in
    let new = c.append_frame.new.log in
    record {
      kept = stored g.D.Disk.seen g.D.Disk.may_leave g.D.Disk.is_usable g.D.Disk.is_clean f.log new f.start f.chain f.count f.is_open f.kept c.requires.open c.args.entries.now
          (to_old (g.D.Disk.is_clean new.disk) (g.D.Disk.is_clean f.log.disk) c.append_frame.ensures.clean)
          c.chain_after-self.result (f.count + length c.args.entries.now) c.chain_after-self.ensures refl c.in-Ok.ensures.ready c.in-Ok.ensures.added;
    }

pub invariant_of-self-in-Err-InDoubt : goal.invariant_of-self-in-Err-InDoubt
invariant_of-self-in-Err-InDoubt g c =
    let f = c.args.self.now in
    let new = c.append_frame.new.log in
    record {
      kept = doubted g.D.Disk.seen g.D.Disk.may_leave g.D.Disk.is_usable g.D.Disk.is_clean f.log new f.start f.chain f.count f.is_open f.kept c.requires.open c.args.entries.now
          (to_old (g.D.Disk.is_clean new.disk) (g.D.Disk.is_clean f.log.disk) c.append_frame.ensures.clean)
          (λ clean. c.append_frame.ensures.any_crash clean (g.D.Disk.seen new.disk) (g.met.D.Disk.seen_may_stay new.disk));
    }

-- nothing was written
pub returns-in-Err-Memory-clause-memory : goal.returns-in-Err-Memory-clause-memory
returns-in-Err-Memory-clause-memory g c = λ is.
    let f = c.args.self.now in
    same_made {R = FileLog g.row.D.Denot g.D.Disk} g.D.Disk.seen g.D.Disk.may_leave g.D.Disk.is_usable g.D.Disk.is_clean c.append_frame.new.log f.log f.start f.chain f.count f.is_open
    (λ l k. record { log = l; alloc = f.alloc; start = f.start; chain = f.chain; count = f.count; is_open = f.is_open; kept = k })
    _ f.kept (c.append_frame.ensures.memory (c.in-Err-Memory.is ∙ ap (λ (e : AppendFault). Err e) c.in-Err-Memory.field-0-is))

pub returns-in-Err-Full-clause-full : goal.returns-in-Err-Full-clause-full
returns-in-Err-Full-clause-full g c = λ is.
    let f = c.args.self.now in
    same_made {R = FileLog g.row.D.Denot g.D.Disk} g.D.Disk.seen g.D.Disk.may_leave g.D.Disk.is_usable g.D.Disk.is_clean c.append_frame.new.log f.log f.start f.chain f.count f.is_open
    (λ l k. record { log = l; alloc = f.alloc; start = f.start; chain = f.chain; count = f.count; is_open = f.is_open; kept = k })
    _ f.kept (c.append_frame.ensures.full (c.in-Err-Full.is ∙ ap (λ (e : AppendFault). Err e) c.in-Err-Full.field-0-is))
