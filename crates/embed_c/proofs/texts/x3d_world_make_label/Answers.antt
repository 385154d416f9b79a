use Rattle.std.proofs.Common.{Some, ap, ◌∙◌}
use Rattle.embed_world.specs.declared.world.EmbeddedWorld.{EmbeddedWorld}
use Rattle.embed_world.specs.Calls.{Makes}
use Rattle.embed_world.specs.Looks as look
use Rattle.embed_world.specs.Status.{status_of_look}
use Rattle.embed_c.proofs.Called.{called}
use Rattle.embed_c.proofs.texts.x3d_world_make_label.Goals as goal

pub returns : goal.returns
returns c =
    called (λ (w : EmbeddedWorld). Makes (look.label_in w.stage.scene c.args.node) w) status_of_look _ _ _ c.deref_mut.result.now _ _
    (ap (λ (w : EmbeddedWorld). Some w) c.deref_mut.ensures.value ∙ c.in-Some.ensures.taken)
    c.make_label-answer.ensures c.status_of_look.ensures c.put.ensures
