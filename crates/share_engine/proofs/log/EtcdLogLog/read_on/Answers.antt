use Rattle.share_etcd.specs.Keys.{text_of}
use Rattle.share_engine.specs.Keys.{held, MayLeave}
use Rattle.share_engine.proofs.Keeping.{kept_read, kept_still, last_still}
use Rattle.share_engine.proofs.Lasting.{last_begins, last_of}
use Rattle.share_engine.proofs.log.EtcdLogLog.read_on.Goals as goal

pub invariant_of-self : goal.invariant_of-self
invariant_of-self g c =
    let l = c.args.self.now in
    let known = c.read_into.new.known in
    record {
      kept = kept_read (text_of l.name) l.head.run (g.E.Engine.told l.engine) (g.E.Engine.told c.read_into.new.engine) l.revisions.head l.revisions.tail l.known known c.in-Ok.revisions.head c.in-Ok.revisions.tail
          c.read_into.ensures.start (c.in-Ok.ensures.all l.head.run) l.kept;
    }

pub invariant_of-self-in-Err-1 : goal.invariant_of-self-in-Err-1
invariant_of-self-in-Err-1 g c =
    let l = c.args.self.now in
    record {
      kept = kept_still (text_of l.name) l.head.run (g.E.Engine.told l.engine) (g.E.Engine.told c.read_into.new.engine) l.revisions.head l.revisions.tail l.known c.read_into.new.known
          c.in-Err.ensures.refused c.read_into.ensures.stays l.kept;
    }

pub returns-in-Ok-clause-last : goal.returns-in-Ok-clause-last
returns-in-Ok-clause-last g c = λ clean.
    let l = c.args.self.now in
    let known = c.read_into.new.known in
    let told = g.E.Engine.told c.read_into.new.engine in
    let now = held c.in-Ok.revisions.head c.in-Ok.revisions.tail known.entries in
    last_of (text_of l.name) l.head.run known.start told now
    (kept_read (text_of l.name) l.head.run (g.E.Engine.told l.engine) told l.revisions.head l.revisions.tail l.known known c.in-Ok.revisions.head c.in-Ok.revisions.tail
    c.read_into.ensures.start (c.in-Ok.ensures.all l.head.run) l.kept)

pub returns-in-Ok-clause-crash : goal.returns-in-Ok-clause-crash
returns-in-Ok-clause-crash g c = λ before clean.
    let l = c.args.self.now in
    let known = c.read_into.new.known in
    let told = g.E.Engine.told c.read_into.new.engine in
    let now = held c.in-Ok.revisions.head c.in-Ok.revisions.tail known.entries in
    let more = c.in-Ok.ensures.more in
    last_begins (MayLeave (text_of l.name) l.head.run known.start told) l.known.entries known.entries (more.0, more.1)
    (last_of (text_of l.name) l.head.run known.start told now
    (kept_read (text_of l.name) l.head.run (g.E.Engine.told l.engine) told l.revisions.head l.revisions.tail l.known known c.in-Ok.revisions.head c.in-Ok.revisions.tail
    c.read_into.ensures.start (c.in-Ok.ensures.all l.head.run) l.kept))

pub returns-in-Err-clause-crash : goal.returns-in-Err-clause-crash
returns-in-Err-clause-crash g c = λ before clean.
    let l = c.args.self.now in
    let known = c.read_into.new.known in
    let told = g.E.Engine.told c.read_into.new.engine in
    let now = held l.revisions.head l.revisions.tail known.entries in
    last_still (MayLeave (text_of l.name) l.head.run known.start told) l.known known c.in-Err.ensures.refused
    (last_of (text_of l.name) l.head.run known.start told now
    (kept_still (text_of l.name) l.head.run (g.E.Engine.told l.engine) told l.revisions.head l.revisions.tail l.known known
    c.in-Err.ensures.refused c.read_into.ensures.stays l.kept))
