-- What a refused run says of its boxes is said of its scripts, and of the bytes of its job.
use Rattle.std.proofs.Common.{◌≡◌, ◌⊎◌, ◌∙◌, ℕ, List, Option, Some, None, ap, inl, inr}
use Rattle.std.specs.Prelude.{IfErr, OnOk, Result, Ok, Err}
use Rattle.std.specs.Io.KnownBytes.{Consumes, IsAtEnd}
use Rattle.scene_core.specs.Scene.{SceneView}
use Rattle.script_running.specs.Scripts.{script_list}
use Rattle.script_boxes.specs.Boxes.{stock_for}
use Rattle.script_boxes.specs.Refused.{scripts_fault}
use Rattle.script_boxes.proofs.Faults.{fault_of, no_fault}
use Rattle.script_host.specs.Hosting.{SlotView}
use Rattle.script_host.specs.declared.fault.AttachFault.{AttachFault}
use Rattle.script_host.specs.declared.fault.AttachFault.TheVariants.{UnknownScript, WrongCount, KindDiffers, InterfaceMismatch, StartMismatch, Memory}
use Rattle.app_program.specs.declared.run_fault.RunFault.{RunFault}
use Rattle.app_program.specs.declared.run_fault.RunFault.TheVariants as run_fault
use Rattle.app_program.specs.declared.open.Job.{Job}
use Rattle.app_program.specs.declared.run_output.RunOutput.{RunOutput}
use Rattle.app_program.specs.declared.refusal.Failure.{Failure}
use Rattle.app_program.specs.declared.refusal.Failure.TheVariants as failure
use Rattle.app_program.specs.Boxes.{RefusesBoxes}
use Rattle.app_program.specs.Opening.{opened_job}
use Rattle.app_program.specs.Running.{FitsJob, IsFailed, IsNoRun, IsUnrun, IsUnrunStock, job_scripts_fault, run_text, unless_refused, written}

-- ---- boxes of the stock

other_than : {A : Type 0} (fault : AttachFault) → (fault ≡ Memory → ⊥) → (fault ≡ Memory) ⊎ A → A
other_than fault other (inl e) = absurd (other e)
other_than fault other (inr a) = a

told : (fault : AttachFault) (scene : SceneView) (boxes : List SlotView) → boxes ≡ stock_for (script_list scene)
    → RefusesBoxes fault scene boxes → scripts_fault (script_list scene) ≡ Some fault
told (UnknownScript k) scene boxes made h =
    other_than (UnknownScript k) (λ e. cc) (fault_of (script_list scene) boxes (UnknownScript k) made h)
told WrongCount scene boxes made h =
    other_than WrongCount (λ e. cc) (fault_of (script_list scene) boxes WrongCount made h)
told (KindDiffers k) scene boxes made h =
    other_than (KindDiffers k) (λ e. cc) (fault_of (script_list scene) boxes (KindDiffers k) made h)
told (InterfaceMismatch k) scene boxes made h =
    other_than (InterfaceMismatch k) (λ e. cc) (fault_of (script_list scene) boxes (InterfaceMismatch k) made h)
told (StartMismatch k) scene boxes made h =
    other_than (StartMismatch k) (λ e. cc) (fault_of (script_list scene) boxes (StartMismatch k) made h)
told Memory scene boxes made h = absurd h

unrun : (job : Job) (boxes : List SlotView) (old new : Option (List ℕ)) (fault : RunFault) → boxes ≡ stock_for (script_list job.scene)
    → IsUnrun job boxes old new fault → IsUnrunStock job old new fault
unrun job boxes old new (run_fault.Attach fault) made h = (told fault job.scene boxes made h.0, h.1)
unrun job boxes old new run_fault.Memory made h = h
unrun job boxes old new run_fault.Device made h = no_fault (script_list job.scene) boxes made h

-- a run that ended well has scripts without a fault
pub taken_if : {A : Type 0} (result : Result A RunFault) (job : Job) (boxes : List SlotView) → boxes ≡ stock_for (script_list job.scene)
    → OnOk result (FitsJob job boxes) → OnOk result (job_scripts_fault job ≡ None)
taken_if (Ok x) job boxes made h = no_fault (script_list job.scene) boxes made h
taken_if (Err fault) job boxes made h = tt

-- why one ended early
pub unrun_if : {A : Type 0} (result : Result A RunFault) (job : Job) (boxes : List SlotView) (old new : Option (List ℕ))
    → boxes ≡ stock_for (script_list job.scene) → IfErr result (IsUnrun job boxes old new) → IfErr result (IsUnrunStock job old new)
unrun_if (Ok x) job boxes old new made h = tt
unrun_if (Err fault) job boxes old new made h = unrun job boxes old new fault made h

-- ---- bytes

no_run : (what : RunOutput) (old new kept left : Option (List ℕ)) (job : Job) (fault : Failure)
    → ((bytes : List ℕ) × Consumes old new bytes × IsAtEnd new × (opened_job bytes ≡ Ok job))
    → IsFailed job kept left fault → IsNoRun what old new kept left fault
no_run what old new kept left job (failure.Run (run_fault.Attach fault)) (bytes, consumed, ended, is) h = (
  record {
    bytes = bytes;
    consumed = consumed;
    ended = ended;
    is = ap (written what) is ∙ ap (unless_refused (run_text what job)) h.0;
  },
  h.1,
)
no_run what old new kept left job (failure.Run run_fault.Memory) read h = h
no_run what old new kept left job (failure.Run run_fault.Device) (bytes, consumed, ended, is) h = (
  run_text what job,
  record {
    bytes = bytes;
    consumed = consumed;
    ended = ended;
    is = ap (written what) is ∙ ap (unless_refused (run_text what job)) h;
  },
)
no_run what old new kept left job (failure.Order fault) read h = absurd h
no_run what old new kept left job (failure.Job fault) read h = absurd h
no_run what old new kept left job (failure.Share fault) read h = absurd h

-- why a run of the job that a reader had ended early
pub no_run_if : {A : Type 0} (what : RunOutput) (result : Result A Failure) (old new kept left : Option (List ℕ)) (job : Job)
    → ((bytes : List ℕ) × Consumes old new bytes × IsAtEnd new × (opened_job bytes ≡ Ok job))
    → IfErr result (IsFailed job kept left) → IfErr result (IsNoRun what old new kept left)
no_run_if what (Ok x) old new kept left job read h = tt
no_run_if what (Err fault) old new kept left job read h = no_run what old new kept left job fault read h
