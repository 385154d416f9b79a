use Rattle.std.proofs.Common.{Some, ap, sym, ◌∙◌}
use Rattle.x3d_values.specs.declared.vector.Vec3.{Vec3}
use Rattle.embed_world.specs.Pointing.{ray_of}
use Rattle.embed_world.specs.declared.world.EmbeddedWorld.{EmbeddedWorld}
use Rattle.embed_c.specs.Answers.{status_of_meet, told}
use Rattle.embed_c.specs.Points.{origin_of}
use Rattle.embed_c.proofs.Called.{meets}
use Rattle.embed_c.proofs.lists.x3d_world_meet.Goals as goal

pub returns-in-Ok : goal.returns-in-Ok
returns-in-Ok c =
    meets _ c.in-Some.ray _ _ _ c.args.met.now _ c.deref_mut.result.now _ c.list_sensors-answer.result
    (sym c.in-Some.is ∙ c.ray_of.ensures ∙ ap (λ (o : Vec3). ray_of o c.direction_of.result) c.origin_of.ensures ∙ ap (ray_of (origin_of c.args.aim.now)) c.direction_of.ensures)
    (ap (λ (w : EmbeddedWorld). Some w) c.deref_mut.ensures.value ∙ c.in-Some-take.ensures.taken)
    c.list_sensors-answer.ensures (sym (ap status_of_meet c.in-Ok.is)) c.put.ensures
    (c.write_met.ensures ∙ sym (ap (told c.args.met.now) c.in-Ok.is))

pub returns-in-Err : goal.returns-in-Err
returns-in-Err c =
    meets _ c.in-Some.ray _ _ _ c.args.met.now _ c.deref_mut.result.now _ c.list_sensors-answer.result
    (sym c.in-Some.is ∙ c.ray_of.ensures ∙ ap (λ (o : Vec3). ray_of o c.direction_of.result) c.origin_of.ensures ∙ ap (ray_of (origin_of c.args.aim.now)) c.direction_of.ensures)
    (ap (λ (w : EmbeddedWorld). Some w) c.deref_mut.ensures.value ∙ c.in-Some-take.ensures.taken)
    c.list_sensors-answer.ensures (c.status_of_look.ensures ∙ sym (ap status_of_meet c.in-Err.is)) c.put.ensures
    (sym (ap (told c.args.met.now) c.in-Err.is))
