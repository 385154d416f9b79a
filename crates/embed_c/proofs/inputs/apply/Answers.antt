use Rattle.std.proofs.Common.{Some, ap, sym, ◌∙◌}
use Rattle.embed_world.specs.declared.world.EmbeddedWorld.{EmbeddedWorld}
use Rattle.embed_c.specs.Answers.{counted, status_of_work}
use Rattle.embed_c.proofs.Called.{applied}
use Rattle.embed_c.proofs.inputs.apply.Goals as goal

pub returns-in-Ok : goal.returns-in-Ok
returns-in-Ok c =
    applied c.args.input.now _ _ _ c.args.work.now _ c.deref_mut.result.now _ c.apply-answer.result
    (ap (λ (w : EmbeddedWorld). Some w) c.deref_mut.ensures.value ∙ c.in-Some.ensures.taken)
    c.apply-answer.ensures (sym (ap status_of_work c.in-Ok.is)) c.put.ensures
    (sym (ap (counted c.args.work.now) c.in-Ok.is))

pub returns-in-Err : goal.returns-in-Err
returns-in-Err c =
    applied c.args.input.now _ _ _ c.args.work.now _ c.deref_mut.result.now _ c.apply-answer.result
    (ap (λ (w : EmbeddedWorld). Some w) c.deref_mut.ensures.value ∙ c.in-Some.ensures.taken)
    c.apply-answer.ensures (c.status_of_apply.ensures ∙ sym (ap status_of_work c.in-Err.is)) c.put.ensures
    (sym (ap (counted c.args.work.now) c.in-Err.is))
