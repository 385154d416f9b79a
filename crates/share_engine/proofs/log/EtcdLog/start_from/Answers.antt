use Rattle.std.proofs.Common.{◌≡◌, ap, arith}
use Rattle.share_entries.specs.declared.start.Start.{Start}
use Rattle.share_etcd.specs.Keys.{text_of}
use Rattle.share_engine.specs.declared.log.EtcdLog.{EtcdLog}
use Rattle.share_engine.specs.Keys.{held, IsKept}
use Rattle.share_engine.proofs.Keeping.{forgotten_if, refused_same}
use Rattle.share_engine.proofs.log.EtcdLog.start_from.Goals as goal

pub invariant_of-self : goal.invariant_of-self
invariant_of-self g c =
    let l = c.args.self.now in
    let below : c.start-below.result.below ≡ l.known.start.below = ap (λ (s : Start). s.below) c.start-below.ensures.value in
    record {
      kept = forgotten_if c.forget.result (text_of l.name) l.head.run (g.E.Engine.told l.engine) l.revisions.head l.revisions.tail c.saturating_sub-count.result l.known c.forget.new.self
          (omega (arith, below, c.number.ensures.value, c.number-2.ensures.value, c.last_number.ensures, c.if-number-last_number.false, c.saturating_sub-count.ensures))
          c.forget.ensures.ok c.forget.ensures.err l.kept;
    }

pub returns-clause-refused : goal.returns-clause-refused
returns-clause-refused g c =
    let l = c.args.self.now in
    refused_same {R = EtcdLog g.row.E.Denot g.E.Engine} c.forget.result (λ k. IsKept (text_of l.name) l.head.run k.start (g.E.Engine.told l.engine) (held l.revisions.head l.revisions.tail k.entries))
    (λ k p. record { engine = l.engine; alloc = l.alloc; name = l.name; head = l.head; known = k; revisions = l.revisions; is_open = l.is_open; kept = p })
    c.forget.new.self l.known _ l.kept c.forget.ensures.err
