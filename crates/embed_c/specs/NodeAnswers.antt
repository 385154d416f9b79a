-- What the exports do with the handles of hosts and viewers.
use Rattle.std.specs.Prelude.{◌≡◌, ◌⊎◌, ℕ, Bool, true, false, List, [], Option, Some, None, Result, Ok, Err}
use Rattle.std.specs.Result.{result_ok}
use Rattle.app_jobs.specs.declared.fault.JobFault.{JobFault}
use Rattle.app_program.specs.Refusal.{refusal_text, status}
use Rattle.app_program.specs.declared.refusal.Failure.TheVariants.{Job}
use Rattle.embed_world.specs.Hosts.{keeping}
use Rattle.embed_world.specs.Viewers.{IsStarted, Meets, Replaces, forgetting}
use Rattle.x3d_values.specs.declared.script.Kind.{Kind}
use Rattle.embed_world.specs.declared.host.EmbeddedHost.{EmbeddedHost}
use Rattle.embed_world.specs.declared.viewer.EmbeddedViewer.{EmbeddedViewer}
use Rattle.embed_world.specs.Looks.{meeting_in}
use Rattle.share_core.specs.Viewer.{stage_in}
use Rattle.x3d_values.specs.Pointing.{RayView}
use Rattle.embed_world.specs.Status.{Calls, CallsOut, IsCopied, out_of_range, status_of_place}
use Rattle.embed_c.specs.Answers.{status_of_meet, told}
use Rattle.embed_c.specs.declared.lists.Met.{Met}

-- ---- opening

-- the handle has this host, or is empty if memory ran out; a host that cannot exist is out of range
abbrev pub HostOpens : Option EmbeddedHost → Option EmbeddedHost → ℕ → Option EmbeddedHost → Type 0
HostOpens None before status after = (status ≡ out_of_range) × (after ≡ before)
HostOpens (Some h) before status after =
    ((status ≡ 0) × (after ≡ Some h)) ⊎ ((status ≡ 5) × (after ≡ None))

abbrev pub status_of_start : Result EmbeddedViewer JobFault → ℕ
status_of_start (Ok _) = 0
status_of_start (Err fault) = status (Job fault)

-- the line of a refusal, as the program prints it; none if a viewer is opened
abbrev pub start_line : Result EmbeddedViewer JobFault → List ℕ
start_line (Ok _) = []
start_line (Err fault) = refusal_text (Job fault)

-- the handle has the viewer of the text, or is empty, with the status and the line of the refusal
abbrev pub ViewerOpens : List ℕ → (who boot : ℕ) → ℕ → Option EmbeddedViewer → (old : List ℕ) → ℕ
    → (new : List ℕ) → Type 0
ViewerOpens text who boot status after old wanted new =
    (answer : Result EmbeddedViewer JobFault) × (copied : ℕ)
    × IsStarted text who boot answer × (status ≡ status_of_start answer)
    × (after ≡ result_ok answer) × IsCopied (start_line answer) old copied wanted new

-- nothing is opened, because a number is out of its range
abbrev pub OpensNone : Option EmbeddedViewer → ℕ → Option EmbeddedViewer → (old : List ℕ)
    → (wanted_old wanted : ℕ) → (new : List ℕ) → Type 0
OpensNone before status after old wanted_old wanted new =
    (status ≡ out_of_range) × (after ≡ before) × (wanted ≡ wanted_old) × (new ≡ old)

-- the viewer of the text is opened, if its number and its boot are in their ranges
abbrev pub ViewerOpensIf : (is_viewer is_ordinal : Bool) → List ℕ → (who boot : ℕ)
    → Option EmbeddedViewer → ℕ → Option EmbeddedViewer → (old : List ℕ) → (wanted_old wanted : ℕ)
    → (new : List ℕ) → Type 0
ViewerOpensIf false ordinal text who boot before status after old wanted_old wanted new =
    OpensNone before status after old wanted_old wanted new
ViewerOpensIf true false text who boot before status after old wanted_old wanted new =
    OpensNone before status after old wanted_old wanted new
ViewerOpensIf true true text who boot before status after old wanted_old wanted new =
    ViewerOpens text who boot status after old wanted new

-- ---- calls that answer nothing

abbrev pub status_of_nothing : Unit {0} → ℕ
status_of_nothing _ = 0

abbrev pub forgets : EmbeddedViewer → Unit {0} → EmbeddedViewer → Type 0
forgets v _ next = next ≡ forgetting v

abbrev pub keeps : (count : ℕ) → EmbeddedHost → Unit {0} → EmbeddedHost → Type 0
keeps count h _ next = next ≡ keeping h count

-- ---- rays

-- the viewer of a handle is asked what a ray meets, unless the ray's numbers are out of range
abbrev pub ViewerMeets : Option RayView → Option EmbeddedViewer → ℕ → Option EmbeddedViewer
    → (old new : Met) → Type 0
ViewerMeets None before status after old new =
    (status ≡ out_of_range) × (after ≡ before) × (new ≡ old)
ViewerMeets (Some ray) before status after old new =
    CallsOut (λ (v : EmbeddedViewer). Meets (meeting_in (stage_in v.viewer) ray) v) status_of_meet
    told before status after old new

-- ---- scripts

-- script k of the viewer of a handle is replaced by a box of a kind; a kind that does not exist is
-- out of range
abbrev pub ViewerReplaces : (k : ℕ) → Option Kind → Option EmbeddedViewer → ℕ
    → Option EmbeddedViewer → Type 0
ViewerReplaces k None before status after = (status ≡ out_of_range) × (after ≡ before)
ViewerReplaces k (Some kind) before status after =
    Calls (λ (v : EmbeddedViewer). Replaces v k kind) status_of_place before status after
