use Rattle.std.proofs.Common.{Some, ap, ◌∙◌}
use Rattle.embed_world.specs.declared.viewer.EmbeddedViewer.{EmbeddedViewer}
use Rattle.embed_world.specs.Viewers.{Meets}
use Rattle.embed_world.specs.Looks as look
use Rattle.share_core.specs.Viewer.{stage_in}
use Rattle.embed_c.specs.Answers.{status_of_meet, told}
use Rattle.embed_c.proofs.Called.{called_out}
use Rattle.embed_c.proofs.viewer_lists.meet.Goals as goal

pub returns : goal.returns
returns c =
    called_out (λ (v : EmbeddedViewer). Meets (look.meeting_in (stage_in v.viewer) c.args.ray) v) status_of_meet told _ _ _ _ _ c.deref_mut.result.now _ _
    (ap (λ (x : EmbeddedViewer). Some x) c.deref_mut.ensures.value ∙ c.in-Some.ensures.taken)
    c.list_sensors-answer.ensures c.tell_met.ensures.status c.put.ensures c.tell_met.ensures.told
