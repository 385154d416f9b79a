-- The numbers that C sees for the answers of a world, and what an export does with a handle.
use Rattle.std.specs.Prelude.{◌≡◌, ℕ, List, [], Option, Some, None, Result, Ok, Err}
use Rattle.std.specs.Result.{result_ok}
use Rattle.app_jobs.specs.declared.fault.JobFault.{JobFault}
use Rattle.app_program.specs.Refusal.{refusal_text, status}
use Rattle.app_program.specs.declared.refusal.Failure.TheVariants.{Job}
use Rattle.snapshot_core.specs.declared.fault.SnapFault.{SnapFault}
use Rattle.snapshot_core.specs.declared.loading.Saved.{Saved}
use Rattle.cascade_core.specs.declared.fault.ApplyFault.{ApplyFault}
use Rattle.cascade_core.specs.declared.work.Work.{Work}
use Rattle.x3d_values.specs.Stamp.{StampedView}
use Rattle.x3d_values.specs.Pointing.{RayView}
use Rattle.x3d_values.specs.declared.script.Kind.{Kind}
use Rattle.embed_world.specs.Calls.{Applies, IsWorldOpened, Loads, Meets, Replaces}
use Rattle.embed_world.specs.Looks.{meeting_in}
use Rattle.embed_world.specs.declared.fault.LookFault.{LookFault}
use Rattle.embed_world.specs.declared.lists.ListEntry.{ListEntry}
use Rattle.embed_world.specs.declared.world.EmbeddedWorld.{EmbeddedWorld}
use Rattle.embed_world.specs.Status.{Calls, IsCopied, closed, out_of_range, status_of_apply, status_of_look, status_of_place, status_of_snap}
use Rattle.embed_c.specs.declared.inputs.WorkCount.{WorkCount}
use Rattle.embed_c.specs.declared.lists.Met.{Met}
use Rattle.embed_c.specs.declared.shots.SavedAs.{SavedAs}

-- 1 if the scene or its scripts are refused, 5 if memory ran out, like the program's exit status
abbrev pub status_of_open : Result EmbeddedWorld JobFault → ℕ
status_of_open (Ok _) = 0
status_of_open (Err fault) = status (Job fault)

-- ---- calls

-- the line of a refusal, as the program prints it; none if a world is opened
abbrev pub refusal_line : Result EmbeddedWorld JobFault → List ℕ
refusal_line (Ok _) = []
refusal_line (Err fault) = refusal_text (Job fault)

-- the handle has the world of the text, or is empty, with the status and the line of the refusal
abbrev pub Opens : List ℕ → ℕ → Option EmbeddedWorld → (old : List ℕ) → ℕ → (new : List ℕ) → Type 0
Opens text status after old wanted new =
    (answer : Result EmbeddedWorld JobFault) × (copied : ℕ)
    × IsWorldOpened text answer × (status ≡ status_of_open answer) × (after ≡ result_ok answer)
    × IsCopied (refusal_line answer) old copied wanted new

-- ---- inputs

abbrev pub counted : WorkCount → Result Work ApplyFault → WorkCount
counted old (Ok work) =
    record { sends = work.sends; deliveries = work.deliveries; settles = work.settles }
counted old (Err fault) = old

abbrev pub status_of_work : Result Work ApplyFault → ℕ
status_of_work (Ok _) = 0
status_of_work (Err fault) = status_of_apply fault

-- an input is applied to the world of a handle, and its work is counted
abbrev pub AppliesAt : StampedView → Option EmbeddedWorld → ℕ → Option EmbeddedWorld
    → (old new : WorkCount) → Type 0
AppliesAt input None status after old new = (status ≡ closed) × (after ≡ None) × (new ≡ old)
AppliesAt input (Some w) status after old new =
    (answer : Result Work ApplyFault) × (next : EmbeddedWorld)
    × Applies w input answer next × (status ≡ status_of_work answer) × (after ≡ Some next)
    × (new ≡ counted old answer)

-- like AppliesAt, for an input whose numbers may be out of range
abbrev pub InputIsApplied : Option StampedView → Option EmbeddedWorld → ℕ → Option EmbeddedWorld
    → (old new : WorkCount) → Type 0
InputIsApplied None before status after old new =
    (status ≡ out_of_range) × (after ≡ before) × (new ≡ old)
InputIsApplied (Some input) before status after old new =
    AppliesAt input before status after old new

-- ---- snapshots

abbrev pub saved_as : SavedAs → Result Saved SnapFault → SavedAs
saved_as old (Ok saved) = record { boot = saved.boot; applied = saved.applied }
saved_as old (Err fault) = old

abbrev pub status_of_load : Result Saved SnapFault → ℕ
status_of_load (Ok _) = 0
status_of_load (Err fault) = status_of_snap fault

-- a snapshot is loaded into the world of a handle, and its boot and inputs are returned
abbrev pub LoadsAt : (boot : ℕ) → (bytes : List ℕ) → Option EmbeddedWorld → ℕ
    → Option EmbeddedWorld → (old new : SavedAs) → Type 0
LoadsAt boot bytes None status after old new = (status ≡ closed) × (after ≡ None) × (new ≡ old)
LoadsAt boot bytes (Some w) status after old new =
    (answer : Result Saved SnapFault) × (next : EmbeddedWorld)
    × Loads w boot bytes answer next × (status ≡ status_of_load answer) × (after ≡ Some next)
    × (new ≡ saved_as old answer)

-- ---- rays

abbrev pub met_of : Option ListEntry → Met
met_of None = record { n = 0; m = 0 }
met_of (Some entry) = record { n = entry.n; m = entry.m }

abbrev pub told : Met → Result (Option ListEntry) LookFault → Met
told old (Ok entry) = met_of entry
told old (Err fault) = old

abbrev pub status_of_meet : Result (Option ListEntry) LookFault → ℕ
status_of_meet (Ok _) = 0
status_of_meet (Err fault) = status_of_look (Err fault)

-- the world of a handle is asked what a ray meets
abbrev pub MeetsAt : RayView → Option EmbeddedWorld → ℕ → Option EmbeddedWorld → (old new : Met)
    → Type 0
MeetsAt ray None status after old new = (status ≡ closed) × (after ≡ None) × (new ≡ old)
MeetsAt ray (Some w) status after old new =
    (answer : Result (Option ListEntry) LookFault) × (next : EmbeddedWorld)
    × Meets (meeting_in w.stage ray) w answer next × (status ≡ status_of_meet answer)
    × (after ≡ Some next) × (new ≡ told old answer)

-- like MeetsAt, for a ray whose numbers may be out of range
abbrev pub Meeting : Option RayView → Option EmbeddedWorld → ℕ → Option EmbeddedWorld
    → (old new : Met) → Type 0
Meeting None before status after old new =
    (status ≡ out_of_range) × (after ≡ before) × (new ≡ old)
Meeting (Some ray) before status after old new = MeetsAt ray before status after old new

-- ---- scripts

-- script k of the world of a handle is replaced by a box of a kind; a kind that does not exist is
-- out of range
abbrev pub IsReplacing : (k : ℕ) → Option Kind → Option EmbeddedWorld → ℕ → Option EmbeddedWorld
    → Type 0
IsReplacing k None before status after = (status ≡ out_of_range) × (after ≡ before)
IsReplacing k (Some kind) before status after =
    Calls (λ (w : EmbeddedWorld). Replaces w k kind) status_of_place before status after
