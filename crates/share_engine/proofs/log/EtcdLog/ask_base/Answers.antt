use Rattle.std.proofs.Common.{◌≡◌, ℕ, List, Option, IfSome, MatchOption, refl, subst, ◌∙◌}
use Rattle.share_entries.specs.Base.{base_text}
use Rattle.share_entries.specs.Head.{head_text}
use Rattle.share_etcd.specs.declared.outcome.Outcome.TheVariants.{Refused, Stored}
use Rattle.share_etcd.specs.Keys.{text_of}
use Rattle.share_engine.specs.Exchanges.{grown}
use Rattle.share_engine.specs.Keys.{outcome_in}
use Rattle.share_engine.proofs.Keeping.{asked_as, kept_based, kept_still}
use Rattle.share_engine.proofs.log.EtcdLog.ask_base.Goals as goal

pub invariant_of-self-in-Ok-None : goal.invariant_of-self-in-Ok-None
invariant_of-self-in-Ok-None g c =
    let l = c.args.self.now in
    record { kept = kept_still (text_of l.name) l.head.run (g.E.Engine.told l.engine) (g.E.Engine.told c.ask_for.new.engine) l.revisions.head l.revisions.tail l.known l.known refl (c.ask_for.ensures.stays (text_of l.name)) l.kept }

pub invariant_of-self-in-Err : goal.invariant_of-self-in-Err
invariant_of-self-in-Err g c =
    let l = c.args.self.now in
    record { kept = kept_still (text_of l.name) l.head.run (g.E.Engine.told l.engine) (g.E.Engine.told c.ask_for.new.engine) l.revisions.head l.revisions.tail l.known l.known refl (c.ask_for.ensures.stays (text_of l.name)) l.kept }

pub invariant_of-self : goal.invariant_of-self
invariant_of-self g c =
    let l = c.args.self.now in
    let old = g.E.Engine.told l.engine in
    let new = g.E.Engine.told c.ask_for.new.engine in
    let stored : (said : Option (List ℕ)) × (new ≡ grown old (record { asked = c.deref.result.now; answer = said })) × (outcome_in said ≡ Stored c.in-Ok-Some.revision) =
    subst (λ (o : Option ℕ). IfSome o (λ revision. (said : Option (List ℕ)) × (new ≡ grown old (record { asked = c.deref.result.now; answer = said })) × (outcome_in said ≡ Stored revision)))
    c.in-Ok-Some.field-0-is c.in-Ok-Some.ensures.stored in
    record {
      kept = kept_based (text_of l.name) l.head.run old new l.revisions.head l.revisions.tail l.known c.deref.result.now c.in-Ok-Some.revision
          (c.args.base.now.number, head_text l.head, base_text c.args.base.now, c.args.snapshot.now, c.deref.ensures.value ∙ c.in-Ok.ensures) stored l.kept;
    }

pub returns-in-Ok-Some-clause-stored : goal.returns-in-Ok-Some-clause-stored
returns-in-Ok-Some-clause-stored g c =
    let l = c.args.self.now in
    let old = g.E.Engine.told l.engine in
    let new = g.E.Engine.told c.ask_for.new.engine in
    let stored : (said : Option (List ℕ)) × (new ≡ grown old (record { asked = c.deref.result.now; answer = said })) × (outcome_in said ≡ Stored c.in-Ok-Some.revision) =
    subst (λ (o : Option ℕ). IfSome o (λ revision. (said : Option (List ℕ)) × (new ≡ grown old (record { asked = c.deref.result.now; answer = said })) × (outcome_in said ≡ Stored revision)))
    c.in-Ok-Some.field-0-is c.in-Ok-Some.ensures.stored in
    asked_as old new c.deref.result.now _ (Stored c.in-Ok-Some.revision) (c.deref.ensures.value ∙ c.in-Ok.ensures) stored

pub returns-in-Ok-None-clause-taken : goal.returns-in-Ok-None-clause-taken
returns-in-Ok-None-clause-taken g c = λ is.
    let old = g.E.Engine.told c.args.self.now.engine in
    let new = g.E.Engine.told c.ask_for.new.engine in
    let refused : (said : Option (List ℕ)) × (new ≡ grown old (record { asked = c.deref.result.now; answer = said })) × (outcome_in said ≡ Refused) =
    subst (λ (o : Option ℕ). MatchOption o ((said : Option (List ℕ)) × (new ≡ grown old (record { asked = c.deref.result.now; answer = said })) × (outcome_in said ≡ Refused)) (λ _. Unit {0}))
    c.in-Ok-None.field-0-is c.in-Ok-None.ensures.refused in
    asked_as old new c.deref.result.now _ Refused (c.deref.ensures.value ∙ c.in-Ok.ensures) refused
