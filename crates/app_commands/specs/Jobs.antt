-- A job for several nodes, from its bytes through each layer in turn.
use Rattle.std.specs.Prelude.{ℕ, List, Result, Ok}
use Rattle.sha2.specs.Sha256.{sha256}
use Rattle.app_jobs.specs.Job.{Lined, job_lines}
use Rattle.app_jobs.specs.declared.fault.JobFault.{JobFault}
use Rattle.app_program.specs.Opening.{next, same, opened}
use Rattle.app_program.specs.declared.open.OpenedScene.{OpenedScene}
use Rattle.app_words.specs.declared.order.Order.{Order}
use Rattle.app_commands.specs.Fits.{fits}
use Rattle.app_commands.specs.Stages.{scripts_refusal, unless_refused}
use Rattle.app_commands.specs.declared.job.SharedJob.{SharedJob}

-- the job of these lines and this scene; its mark is that of the scene's bytes
abbrev pub with_mark : Lined → OpenedScene → Result SharedJob JobFault
with_mark l o =
    Ok (record {
      inputs = l.inputs;
      mark = sha256 l.scene;
      scene = o.scene;
      routes = o.routes;
    })

-- the job of bytes: the steps of the lines before the first line `scene`, and the scene after it
unfoldable pub shared : List ℕ → Result SharedJob JobFault
shared bytes = next same (job_lines bytes) (λ l. next same (opened l.scene) (with_mark l))

abbrev pub if_fits : Order → SharedJob → Result SharedJob JobFault
if_fits order job = next same (fits order job.inputs) (λ _. Ok job)

-- the job of bytes, if the command takes its steps
unfoldable pub fitting : Order → List ℕ → Result SharedJob JobFault
fitting order bytes = next same (shared bytes) (if_fits order)

abbrev pub if_scripted : SharedJob → Result SharedJob JobFault
if_scripted job = unless_refused job (scripts_refusal job.scene)

-- the job of bytes, if the command takes its steps and the scripts of its scene are taken
unfoldable pub staffed : Order → List ℕ → Result SharedJob JobFault
staffed order bytes = next same (fitting order bytes) if_scripted
