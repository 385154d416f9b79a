use Rattle.std.proofs.Common.{Some, ap, ◌∙◌}
use Rattle.embed_logs.specs.Files as files
use Rattle.embed_logs.specs.LogFaults.{status_of_log_file}
use Rattle.embed_logs.specs.declared.files.LogFile.{LogFile}
use Rattle.embed_world.specs.PeerStatus.{status_by}
use Rattle.embed_c.proofs.Called.{called}
use Rattle.embed_c.proofs.logs.x3d_log_append.Goals as goal

pub returns : goal.returns
returns c =
    called (λ (f : LogFile). files.Appends c.args.bytes.now f) (status_by status_of_log_file) _ _ _ c.deref_mut.result.now _ _
    (ap (λ (f : LogFile). Some f) c.deref_mut.ensures.value ∙ c.in-Some.ensures.taken)
    c.append-answer.ensures c.status_of_append.ensures c.put.ensures
