use Rattle.std.proofs.Common.{Some, ap, ◌∙◌}
use Rattle.embed_world.specs.declared.world.EmbeddedWorld.{EmbeddedWorld}
use Rattle.embed_world.specs.Calls.{Saves}
use Rattle.embed_world.specs.Status.{status_of_save}
use Rattle.embed_c.proofs.Called.{called}
use Rattle.embed_c.proofs.shots.x3d_world_make_snapshot.Goals as goal

pub returns : goal.returns
returns c =
    called (λ (w : EmbeddedWorld). Saves w c.args.boot) status_of_save _ _ _ c.deref_mut.result.now _ _
    (ap (λ (w : EmbeddedWorld). Some w) c.deref_mut.ensures.value ∙ c.in-Some.ensures.taken)
    c.make_snapshot-answer.ensures c.status_of_save.ensures c.put.ensures
