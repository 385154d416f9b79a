use Rattle.std.proofs.Common.{Some, ap, ◌∙◌}
use Rattle.embed_world.specs.declared.world.EmbeddedWorld.{EmbeddedWorld}
use Rattle.embed_world.specs.Calls.{ListsChanged}
use Rattle.embed_world.specs.Looks as look
use Rattle.embed_world.specs.Status.{status_of_look}
use Rattle.embed_c.proofs.Called.{called}
use Rattle.embed_c.proofs.changed.x3d_world_list_changed.Goals as goal

pub returns : goal.returns
returns c =
    called (λ (w : EmbeddedWorld). ListsChanged (look.changed_in w.stage c.args.since) w) status_of_look _ _ _ c.deref_mut.result.now _ _
    (ap (λ (x : EmbeddedWorld). Some x) c.deref_mut.ensures.value ∙ c.in-Some.ensures.taken)
    c.list_changed-answer.ensures c.status_of_look.ensures c.put.ensures
