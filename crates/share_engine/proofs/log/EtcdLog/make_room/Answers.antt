use Rattle.share_etcd.specs.Keys.{text_of}
use Rattle.share_engine.specs.declared.log.EtcdLog.{EtcdLog}
use Rattle.share_engine.specs.Keys.{held, IsKept}
use Rattle.share_engine.proofs.Keeping.{same_known}
use Rattle.share_engine.proofs.log.EtcdLog.make_room.Goals as goal

pub returns : goal.returns
returns g c =
    let l = c.args.self.now in
    same_known {R = EtcdLog g.row.E.Denot g.E.Engine} (λ k. IsKept (text_of l.name) l.head.run k.start (g.E.Engine.told l.engine) (held l.revisions.head l.revisions.tail k.entries))
    (λ k p. record { engine = l.engine; alloc = l.alloc; name = l.name; head = l.head; known = k; revisions = l.revisions; is_open = l.is_open; kept = p })
    c.reserve.new.self l.known _ l.kept c.reserve.ensures
