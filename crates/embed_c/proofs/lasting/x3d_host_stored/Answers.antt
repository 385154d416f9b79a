use Rattle.std.proofs.Common.{Some, ap, sym, ◌∙◌}
use Rattle.embed_world.specs.declared.host.EmbeddedHost.{EmbeddedHost}
use Rattle.embed_c.proofs.LogCalls.{answered_by}
use Rattle.embed_c.proofs.lasting.x3d_host_stored.Goals as goal

pub returns : goal.returns
returns c =
    answered_by _ c.in-Some.given _ _ _ _ c.deref_mut.result.now _ _
    (sym c.in-Some.is ∙ c.answer_of.ensures)
    (ap (λ (x : EmbeddedHost). Some x) c.deref_mut.ensures.value ∙ c.in-Some-take.ensures.taken)
    c.answer-told.ensures c.status_of_answer.ensures c.leave.ensures
