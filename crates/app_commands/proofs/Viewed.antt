-- The viewer of a job's bytes.
use Rattle.std.proofs.Common.{◌≡◌, ℕ, List}
use Rattle.std.specs.Prelude.{Ok, None}
use Rattle.x3d_values.specs.declared.pointing.Point.{Point}
use Rattle.share_core.specs.Viewer.{ViewerView}
use Rattle.app_words.specs.declared.order.Order.{Order}
use Rattle.app_commands.specs.Jobs.{fitting}
use Rattle.app_commands.specs.Stages.{scripts_refusal}
use Rattle.app_commands.specs.Viewing.{IsSeated, points, viewer_of}
use Rattle.app_commands.specs.declared.job.SharedJob.{SharedJob}
use Rattle.app_commands.proofs.JointJobs.{is_staffed}

pub is_seated : (order : Order) (bytes : List ℕ) (who boot : ℕ) (job : SharedJob) (viewer : ViewerView) (asked : List Point)
    → fitting order bytes ≡ Ok job → scripts_refusal job.scene ≡ None → viewer ≡ viewer_of job who boot → asked ≡ points job.inputs
    → IsSeated order bytes who boot viewer asked
is_seated order bytes who boot job viewer asked is taken made pointed = (job, is_staffed order bytes job is taken, made, pointed)
