use Rattle.std.proofs.Common.{◌≡◌, false, length, rules}
use Rattle.share_store.proofs.Handles.{noted_known, noted_open}
use Rattle.share_store.proofs.memory.MemoryLog.doubt.Goals as goal

pub returns-clause-known : goal.returns-clause-known
returns-clause-known c =
    let known : c.len-known.result ≡ length c.args.self.now.entries = search rules in
    noted_known c.args.self.now c.add.new.self c.set.new.self c.args.number c.args.entries.now c.len-known.result false c.requires.open
    c.in_ok-add.ensures.entries c.in_ok-add.ensures.handles c.set.ensures.entries c.set.ensures.handles known

pub returns-clause-closed : goal.returns-clause-closed
returns-clause-closed c =
    noted_open c.args.self.now c.add.new.self c.set.new.self c.args.number c.len-known.result false c.requires.open
    c.in_ok-add.ensures.handles c.set.ensures.handles
