use Rattle.std.proofs.Common.{Some, ap, ◌∙◌}
use Rattle.embed_world.specs.declared.host.EmbeddedHost.{EmbeddedHost}
use Rattle.embed_c.proofs.LogCalls.{appended}
use Rattle.embed_c.proofs.lasting.x3d_host_pending.Goals as goal

pub returns : goal.returns
returns c =
    appended _ _ _ _ _ _ _ _ _ c.deref_mut.result.now _ _
    (ap (λ (x : EmbeddedHost). Some x) c.deref_mut.ensures.value ∙ c.in-Some.ensures.taken)
    c.pending-answer.ensures c.put.ensures c.copy_append.ensures
