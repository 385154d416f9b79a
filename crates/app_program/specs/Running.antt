-- What a job's run writes.
use Rattle.std.specs.Prelude.{◌≡◌, ◌⊎◌, ℕ, List, Option, Some, None, Result, Ok, Err}
use Rattle.std.specs.Io.KnownBytes.{Appends, Consumes, IsAtEnd, Keeps}
use Rattle.cascade_core.specs.Apply.{world}
use Rattle.script_running.specs.Scripts.{script_list}
use Rattle.script_boxes.specs.Refused.{scripts_fault}
use Rattle.script_host.specs.Attaching.{Fits}
use Rattle.script_host.specs.Hosting.{SlotView}
use Rattle.script_host.specs.declared.fault.AttachFault.{AttachFault}
use Rattle.app_jobs.specs.declared.fault.JobFault.{JobFault}
use Rattle.app_program.specs.declared.run_fault.RunFault.{RunFault}
use Rattle.app_program.specs.declared.run_fault.RunFault.TheVariants as run_fault
use Rattle.app_program.specs.Boxes.{RefusesBoxes}
use Rattle.app_program.specs.declared.open.Job.{Job}
use Rattle.app_program.specs.declared.run_output.RunOutput.{RunOutput}
use Rattle.app_program.specs.RunOutputs.{output_text}
use Rattle.app_program.specs.declared.refusal.Failure.{Failure}
use Rattle.app_program.specs.declared.refusal.Failure.TheVariants as failure
use Rattle.app_program.specs.Opening.{opened_job, IsDeviceOrMemory, IsNoJob}

-- what is written of the world of the job's scene after its inputs
unfoldable pub run_text : RunOutput → Job → List ℕ
run_text what job = output_text what job.scene job.routes (world job.scene job.routes job.inputs)

-- ---- boxes

-- the boxes are those that the scripts of the job's scene ask for
abbrev pub FitsJob : Job → List SlotView → Type 0
FitsJob job boxes = Fits (script_list job.scene) boxes

-- why a run with these boxes ended early: the boxes are not those that the scene's scripts ask for,
-- or memory was refused, and nothing was written; or the boxes fit, and the writer's device failed
abbrev pub IsUnrun : Job → List SlotView → (old new : Option (List ℕ)) → RunFault → Type 0
IsUnrun job boxes old new (run_fault.Attach fault) =
    RefusesBoxes fault job.scene boxes × Keeps old new
IsUnrun job boxes old new run_fault.Memory = Keeps old new
IsUnrun job boxes old new run_fault.Device = FitsJob job boxes

-- ---- boxes of the stock

-- why the scripts of the job's scene are refused
abbrev pub job_scripts_fault : Job → Option AttachFault
job_scripts_fault job = scripts_fault (script_list job.scene)

-- like `IsUnrun`, for boxes of the stock
abbrev pub IsUnrunStock : Job → (old new : Option (List ℕ)) → RunFault → Type 0
IsUnrunStock job old new (run_fault.Attach fault) =
    (job_scripts_fault job ≡ Some fault) × Keeps old new
IsUnrunStock job old new run_fault.Memory = Keeps old new
IsUnrunStock job old new run_fault.Device = job_scripts_fault job ≡ None

-- like `IsUnrunStock`, for a failure of the whole program
abbrev pub IsFailed : Job → (old new : Option (List ℕ)) → Failure → Type 0
IsFailed job old new (failure.Run fault) = IsUnrunStock job old new fault
IsFailed job old new fault = ⊥

-- ---- bytes in, bytes out

abbrev pub unless_refused : List ℕ → Option AttachFault → Result (List ℕ) Failure
unless_refused text None = Ok text
unless_refused text (Some fault) = Err (failure.Run (run_fault.Attach fault))

-- what the run of a job writes, if there is a job
abbrev pub written : RunOutput → Result Job JobFault → Result (List ℕ) Failure
written what (Ok job) = unless_refused (run_text what job) (job_scripts_fault job)
written what (Err fault) = Err (failure.Job fault)

-- what a run writes if its input is these bytes; or why the bytes are not a job, or why the scripts
-- of its scene are refused
abbrev pub output_of : RunOutput → List ℕ → Result (List ℕ) Failure
output_of what bytes = written what (opened_job bytes)

-- the reader was read to its end, and its bytes give this output
pub record Comes (what : RunOutput) (old new : Option (List ℕ)) (output : Result (List ℕ) Failure)
    : Type 0 where
  pub bytes : List ℕ
  pub consumed : Consumes old new bytes
  pub ended : IsAtEnd new
  pub is : output_of what bytes ≡ output

-- the reader's bytes give a text, and that text was appended to the writer
pub record IsRun
    (what : RunOutput) (reader_old reader_new writer_old writer_new : Option (List ℕ))
    : Type 0 where
  pub text : List ℕ
  pub comes : Comes what reader_old reader_new (Ok text)
  pub appended : Appends writer_old writer_new text

-- why a run from the reader's bytes ended early. If there is no job, its scripts are refused or
-- memory is refused, nothing was written. If the writer's device failed, there was a text to write
abbrev pub IsNoRun :
    RunOutput → (reader_old reader_new writer_old writer_new : Option (List ℕ)) → Failure → Type 0
IsNoRun what old new kept left (failure.Job fault) =
    (IsDeviceOrMemory fault ⊎ IsNoJob old new fault) × Keeps kept left
IsNoRun what old new kept left (failure.Run (run_fault.Attach fault)) =
    Comes what old new (Err (failure.Run (run_fault.Attach fault))) × Keeps kept left
IsNoRun what old new kept left (failure.Run run_fault.Memory) = Keeps kept left
IsNoRun what old new kept left (failure.Run run_fault.Device) =
    (text : List ℕ) × Comes what old new (Ok text)
IsNoRun what old new kept left fault = ⊥
