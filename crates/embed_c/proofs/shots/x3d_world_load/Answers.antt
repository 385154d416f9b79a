use Rattle.std.proofs.Common.{Some, ap, sym, ◌∙◌}
use Rattle.embed_world.specs.declared.world.EmbeddedWorld.{EmbeddedWorld}
use Rattle.embed_c.specs.Answers.{saved_as, status_of_load}
use Rattle.embed_c.proofs.Called.{loads}
use Rattle.embed_c.proofs.shots.x3d_world_load.Goals as goal

pub returns-in-Ok : goal.returns-in-Ok
returns-in-Ok c =
    loads c.args.boot c.args.bytes.now _ _ _ c.args.saved.now _ c.deref_mut.result.now _ c.load-answer.result
    (ap (λ (w : EmbeddedWorld). Some w) c.deref_mut.ensures.value ∙ c.in-Some.ensures.taken)
    c.load-answer.ensures (sym (ap status_of_load c.in-Ok.is)) c.put.ensures
    (sym (ap (saved_as c.args.saved.now) c.in-Ok.is))

pub returns-in-Err : goal.returns-in-Err
returns-in-Err c =
    loads c.args.boot c.args.bytes.now _ _ _ c.args.saved.now _ c.deref_mut.result.now _ c.load-answer.result
    (ap (λ (w : EmbeddedWorld). Some w) c.deref_mut.ensures.value ∙ c.in-Some.ensures.taken)
    c.load-answer.ensures (c.status_of_snap.ensures ∙ sym (ap status_of_load c.in-Err.is)) c.put.ensures
    (sym (ap (saved_as c.args.saved.now) c.in-Err.is))
