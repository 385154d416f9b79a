-- What a host and its viewers, each at a port, do with a job.
use Rattle.std.specs.Prelude.{◌≡◌, ℕ, List, [], length, Ok, replicate}
use Rattle.x3d_values.specs.Stamp.{StampedView}
use Rattle.cascade_core.specs.Held.{StageView}
use Rattle.share_law.specs.Parts.{new_part}
use Rattle.share_core.specs.Viewer.{ViewerView}
use Rattle.share_rehearsal.specs.Calls.{viewers_from}
use Rattle.share_turns.specs.Seats.{Seats, Ways, seats_of}
use Rattle.share_turns.specs.Round.{Meeting}
use Rattle.share_turns.specs.Agreeing.{AreAgreed}
use Rattle.share_turns.specs.AgreedTexts.{IsAgreeRunEnd, IsAgreedText}
use Rattle.share_turns.specs.declared.fault.SeriesFault.{SeriesFault}
use Rattle.app_program.specs.declared.fault.ShareFault.{ShareFault}
use Rattle.app_words.specs.declared.order.Order.{Order}
use Rattle.app_commands.specs.Jobs.{staffed}
use Rattle.app_commands.specs.Stages.{fresh}
use Rattle.app_commands.specs.Hosting.{series_fault}
use Rattle.app_commands.specs.declared.job.SharedJob.{SharedJob}

-- the inputs and the mark of a job, and its viewers
pub record Joint : Type 0 where
  pub inputs : List StampedView
  pub mark : List ℕ
  pub viewers : List ViewerView

-- the job with this many viewers of its scene, numbered from 0, in their first boots
abbrev pub joint_of : SharedJob → (viewers : ℕ) → Joint
joint_of job viewers = record {
  inputs = job.inputs;
  mark = job.mark;
  viewers = viewers_from job.mark 0
      (replicate viewers (fresh (record { scene = job.scene; routes = job.routes })));
}

-- the stages are one for each viewer of the job of bytes
abbrev pub IsStaged : Order → (viewers : ℕ) → (bytes : List ℕ) → List StampedView → (mark : List ℕ)
    → List StageView → Type 0
IsStaged order viewers bytes inputs mark stages =
    (job : SharedJob) × (staffed order bytes ≡ Ok job) × (inputs ≡ job.inputs) × (mark ≡ job.mark)
    × (stages ≡ replicate viewers (fresh (record { scene = job.scene; routes = job.routes })))

abbrev pub IsJoint : Order → (viewers : ℕ) → (bytes : List ℕ) → Joint → Type 0
IsJoint order viewers bytes joint =
    (job : SharedJob) × (staffed order bytes ≡ Ok job) × (joint ≡ joint_of job viewers)

-- a newly made host, and viewers, each at its port
abbrev pub met : {P : Type 0} → (port : P) → Seats P → Meeting P
met port seats = record {
  host = new_part (length seats.viewers);
  port = port;
  seats = seats;
}

-- rounds ran until all inputs were issued and every viewer had applied them. The text is `agreed`
-- and the number of inputs, then the trace and the scene of viewer 0
abbrev pub IsAgreed : {P : Type 0} → Ways P → Joint → (own turns : ℕ) → (port : P)
    → (ports : List P) → (left_port : P) → (left : Seats P) → (text : List ℕ) → Type 0
IsAgreed {P} ways job own turns port ports left_port left text =
    (new : Meeting P)
    × AreAgreed ways job.mark job.inputs own turns
    (met port (seats_of job.viewers ports)) new
    × (new.port ≡ left_port) × (new.seats ≡ left)
    × IsAgreedText (length job.inputs) new.seats.viewers [] text

-- the rounds or the texts ended early
abbrev pub IsAgreedInPart : {P : Type 0} → Ways P → Joint → (own turns : ℕ) → (port : P)
    → (ports : List P) → (left_port : P) → (left : Seats P) → ShareFault → Type 0
IsAgreedInPart {P} ways job own turns port ports left_port left fault =
    (early : SeriesFault) × (new : Meeting P) × (fault ≡ series_fault early)
    × (new.port ≡ left_port) × (new.seats ≡ left)
    × IsAgreeRunEnd ways job.mark job.inputs own turns
    (met port (seats_of job.viewers ports)) early new
