use Rattle.std.proofs.Common.{Some, ap, ◌∙◌}
use Rattle.embed_world.specs.Calls.{Lists}
use Rattle.embed_world.specs.Looks as look
use Rattle.embed_world.specs.declared.world.EmbeddedWorld.{EmbeddedWorld}
use Rattle.embed_world.specs.Status.{status_of_look}
use Rattle.embed_c.proofs.Called.{called}
use Rattle.embed_c.proofs.routes.x3d_world_list_routes.Goals as goal

pub returns : goal.returns
returns c =
    called (λ (w : EmbeddedWorld). Lists (look.routes_listed w.stage.routes) w) status_of_look _ _ _ c.deref_mut.result.now _ _
    (ap (λ (w : EmbeddedWorld). Some w) c.deref_mut.ensures.value ∙ c.in-Some.ensures.taken)
    c.list_routes-answer.ensures c.status_of_look.ensures c.put.ensures
