use Rattle.std.proofs.Common.{true, IsTrue, ap}
use Rattle.share_etcd.specs.Keys.{text_of}
use Rattle.share_engine.specs.declared.log.EtcdLog.{EtcdLog}
use Rattle.share_engine.specs.Keys.{held, MayLeave}
use Rattle.share_engine.proofs.Keeping.{last_if, crash_if}
use Rattle.share_engine.proofs.Lasting.{last_of}
use Rattle.share_engine.proofs.log.EtcdLogLog.append.Goals as goal

-- what the keys may have begins with what the handle now knows
pub returns-clause-last : goal.returns-clause-last
returns-clause-last g c =
    let n = c.store.new.self in
    let world = text_of n.name in
    let told = g.E.Engine.told n.engine in
    last_if c.store.result (MayLeave world n.head.run n.known.start told) n.known.entries c.make_room.new.self.known.entries c.args.self.now.known.entries c.args.entries.now (IsTrue true)
    (last_of world n.head.run n.known.start told (held n.revisions.head n.revisions.tail n.known.entries) n.kept)
    (ap (λ (l : EtcdLog g.row.E.Denot g.E.Engine). l.known.entries) c.make_room.ensures) c.store.ensures.stored

pub returns-clause-crash : goal.returns-clause-crash
returns-clause-crash g c = λ before clean.
    let n = c.store.new.self in
    let world = text_of n.name in
    let told = g.E.Engine.told n.engine in
    crash_if c.store.result (MayLeave world n.head.run n.known.start told) n.known.entries c.make_room.new.self.known.entries c.args.self.now.known.entries c.args.entries.now
    (last_of world n.head.run n.known.start told (held n.revisions.head n.revisions.tail n.known.entries) n.kept)
    (ap (λ (l : EtcdLog g.row.E.Denot g.E.Engine). l.known.entries) c.make_room.ensures) c.store.ensures.stored c.store.ensures.refused
