use Rattle.std.proofs.Common.{Some, ap, ◌∙◌}
use Rattle.embed_world.specs.Calls.{Forgets}
use Rattle.embed_world.specs.Status.{status_of_forget}
use Rattle.embed_world.specs.declared.world.EmbeddedWorld.{EmbeddedWorld}
use Rattle.embed_c.proofs.Called.{called}
use Rattle.embed_c.proofs.forgetting.x3d_world_forget_below.Goals as goal

pub returns : goal.returns
returns c =
    called (λ (x : EmbeddedWorld). Forgets x c.args.below) status_of_forget _ _ _ c.deref_mut.result.now _ _
    (ap (λ (x : EmbeddedWorld). Some x) c.deref_mut.ensures.value ∙ c.in-Some.ensures.taken)
    c.forget_below-answer.ensures c.status_of_forget.ensures c.put.ensures
