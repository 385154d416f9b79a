use Rattle.std.proofs.Common.{◌≡◌, ◌+◌, ℕ, List, Option, IfSome, length, refl, subst}
use Rattle.share_entries.specs.Chain.{chain_after}
use Rattle.share_etcd.specs.declared.outcome.Outcome.TheVariants.{Stored}
use Rattle.share_etcd.specs.Keys.{text_of}
use Rattle.share_engine.specs.Exchanges.{grown}
use Rattle.share_engine.specs.Keys.{outcome_in}
use Rattle.share_engine.proofs.Keeping.{kept_still, kept_more}
use Rattle.share_engine.proofs.log.EtcdLog.store.Goals as goal

pub invariant_of-self-in-Ok-None : goal.invariant_of-self-in-Ok-None
invariant_of-self-in-Ok-None g c =
    let l = c.args.self.now in
    record { kept = kept_still (text_of l.name) l.head.run (g.E.Engine.told l.engine) (g.E.Engine.told c.ask_for.new.engine) l.revisions.head l.revisions.tail l.known l.known refl (c.ask_for.ensures.stays (text_of l.name)) l.kept }

pub invariant_of-self-in-Err : goal.invariant_of-self-in-Err
invariant_of-self-in-Err g c =
    let l = c.args.self.now in
    record { kept = kept_still (text_of l.name) l.head.run (g.E.Engine.told l.engine) (g.E.Engine.told c.ask_for.new.engine) l.revisions.head l.revisions.tail l.known l.known refl (c.ask_for.ensures.stays (text_of l.name)) l.kept }

-- the entries were stored, but aren't known
pub invariant_of-self-in-Err-add : goal.invariant_of-self-in-Err-add
invariant_of-self-in-Err-add g c =
    let l = c.args.self.now in
    record { kept = kept_still (text_of l.name) l.head.run (g.E.Engine.told l.engine) (g.E.Engine.told c.ask_for.new.engine) l.revisions.head l.revisions.tail l.known c.add.new.self c.in-Err-add.ensures.err (c.ask_for.ensures.stays (text_of l.name)) l.kept }

pub invariant_of-self : goal.invariant_of-self
invariant_of-self g c =
    let l = c.args.self.now in
    let old = g.E.Engine.told l.engine in
    let new = g.E.Engine.told c.ask_for.new.engine in
    let stored : (said : Option (List ℕ)) × (new ≡ grown old (record { asked = c.args.body.now; answer = said })) × (outcome_in said ≡ Stored c.in-Ok-Some.revision) =
    subst (λ (o : Option ℕ). IfSome o (λ revision. (said : Option (List ℕ)) × (new ≡ grown old (record { asked = c.args.body.now; answer = said })) × (outcome_in said ≡ Stored revision)))
    c.in-Ok-Some.field-0-is c.in-Ok-Some.ensures.stored in
    record {
      kept = kept_more (text_of l.name) l.head.run old new l.revisions.head l.revisions.tail l.known c.add.new.self (l.known.start.below + length l.known.entries + 1) (l.known.start.below + length l.known.entries + length c.args.entries.now) (chain_after l.known.start.chain l.known.entries) c.args.entries.now c.args.body.now c.in-Ok-Some.revision
          c.in-Ok.ensures.ok c.requires.asks c.requires.again stored l.kept;
    }
