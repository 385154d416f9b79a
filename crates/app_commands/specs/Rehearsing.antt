-- What a host and viewers in memory do with a schedule.
use Rattle.std.specs.Prelude.{◌≡◌, ℕ, List, [], Result, Ok, replicate}
use Rattle.sha2.specs.Sha256.{sha256}
use Rattle.cascade_core.specs.Held.{StageView}
use Rattle.share_law.specs.declared.step.Step.{Step}
use Rattle.share_core.specs.Host.{HostView}
use Rattle.share_core.specs.Viewer.{ViewerView}
use Rattle.app_jobs.specs.Schedule.{schedule_lines}
use Rattle.app_jobs.specs.declared.fault.JobFault.{JobFault}
use Rattle.app_jobs.specs.declared.schedule.Schedule.{Schedule}
use Rattle.app_program.specs.Opening.{next, same}
use Rattle.app_program.specs.declared.open.OpenedScene.{OpenedScene}
use Rattle.share_rehearsal.specs.declared.answer.Answer.{Answer}
use Rattle.share_rehearsal.specs.Calls.{Seen, AreCalls, begun_with}
use Rattle.share_rehearsal.specs.Log.{log_text}
use Rattle.share_rehearsal.specs.Rehearsed.{IsRehearsal, IsRehearsed}
use Rattle.app_program.specs.Stages.{staged_scene}
use Rattle.app_commands.specs.Stages.{fresh}

-- the scene of a schedule, or the first fault of its lines, or else of its scene, or else of its
-- scripts
abbrev pub schedule_scene : List ℕ → Result OpenedScene JobFault
schedule_scene bytes = next same (schedule_lines bytes) (λ s. staged_scene s.scene)

-- the text is the log of steps that viewers with these stages and their host went through
pub record IsLogOf (mark : List ℕ) (stages : List StageView) (steps : List Step) (text : List ℕ) :
    Type 0 where
  pub host : HostView
  pub viewers : List ViewerView
  pub rehearsed : IsRehearsed mark stages steps [] text host viewers

-- the text is the log of a schedule's steps, run by this many viewers of its scene and their host.
-- It has the answers of the calls. The law's network gives the same answers, and ends in what is
-- left
pub record IsScheduleLog (viewers : ℕ) (schedule : Schedule) (text : List ℕ) : Type 0 where
  pub scene : OpenedScene
  pub is_scene : staged_scene schedule.scene ≡ Ok scene
  pub answers : List Answer
  pub left : Seen
  pub calls : AreCalls (begun_with (sha256 schedule.scene) (replicate viewers (fresh scene)))
      schedule.steps answers left
  pub log : text ≡ log_text answers left.viewers
  pub law : IsRehearsal (sha256 schedule.scene) scene.scene scene.routes viewers schedule.steps
      answers left

-- like `IsScheduleLog`, for the schedule of bytes
abbrev pub IsRehearsedLog : (viewers : ℕ) → (bytes text : List ℕ) → Type 0
IsRehearsedLog viewers bytes text =
    (s : Schedule) × (schedule_lines bytes ≡ Ok s) × IsScheduleLog viewers s text
