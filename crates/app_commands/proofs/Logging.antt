-- The log of a schedule, from that of its stages.
use Rattle.std.proofs.Common.{◌≡◌, ◌⊎◌, inl, inr, ℕ, List, [], replicate, ◌∙◌, ap, subst}
use Rattle.std.specs.Prelude.{Result, Ok, Err}
use Rattle.std.proofs.lemmas.List.{length-replicate}
use Rattle.sha2.specs.Sha256.{sha256}
use Rattle.cascade_core.specs.Held.{StageView}
use Rattle.share_law.specs.declared.step.Step.{Step}
use Rattle.app_jobs.specs.Schedule.{schedule_lines}
use Rattle.app_jobs.specs.declared.fault.JobFault.{JobFault}
use Rattle.app_jobs.specs.declared.fault.JobFault.TheVariants.{Memory}
use Rattle.app_jobs.specs.declared.schedule.Schedule.{Schedule}
use Rattle.app_program.specs.Opening.{next, same}
use Rattle.share_rehearsal.specs.Calls.{Seen, seen_of}
use Rattle.share_rehearsal.specs.Rehearsed.{IsRehearsal, IsRehearsed}
use Rattle.app_commands.specs.Rehearsing.{IsLogOf, IsScheduleLog, schedule_scene}
use Rattle.app_program.specs.Stages.{staged_scene}
use Rattle.app_commands.specs.Stages.{AreStages, fresh}
use Rattle.app_commands.proofs.Loaded.{are_loaded}

is_log : (viewers : ℕ) (schedule : Schedule) (stages : List StageView) (text : List ℕ)
    → AreStages viewers schedule.scene stages → IsLogOf (sha256 schedule.scene) stages schedule.steps text
    → IsScheduleLog viewers schedule text
is_log viewers schedule stages text are log =
    let mark = sha256 schedule.scene in
    let o = are.scene in
    let done : IsRehearsed mark (replicate viewers (fresh o)) schedule.steps [] text log.host log.viewers =
    subst (λ (s : List StageView). IsRehearsed mark s schedule.steps [] text log.host log.viewers) are.are log.rehearsed in
    let left : Seen = seen_of log.host log.viewers done.packets done.shots in
    record {
      scene = o;
      is_scene = are.is_scene;
      answers = done.answers;
      left = left;
      calls = done.calls;
      log = done.log;
      law = subst (λ (n : ℕ). IsRehearsal mark o.scene o.routes n schedule.steps done.answers left)
          (length-replicate viewers (fresh o)) (done.law schedule.scene o.scene o.routes (are_loaded viewers schedule.scene o are.is_scene));
    }

pub is_schedule_log : (viewers : ℕ) (schedule : Schedule) (bytes mark : List ℕ) (steps : List Step) (stages : List StageView) (text : List ℕ)
    → bytes ≡ schedule.scene → mark ≡ sha256 bytes → steps ≡ schedule.steps
    → AreStages viewers bytes stages → IsLogOf mark stages steps text → IsScheduleLog viewers schedule text
is_schedule_log viewers schedule bytes mark steps stages text is marked stepped are log =
    let own = subst (λ (b : List ℕ). AreStages viewers b stages) is are in
    let by_mark = subst (λ (m : List ℕ). IsLogOf m stages steps text) (marked ∙ ap sha256 is) log in
    is_log viewers schedule stages text own (subst (λ (s : List Step). IsLogOf (sha256 schedule.scene) stages s text) stepped by_mark)

-- the scene of a schedule is refused
pub refused_scene : (bytes : List ℕ) (schedule : Schedule) (f : JobFault) → schedule_lines bytes ≡ Ok schedule
    → (f ≡ Memory) ⊎ (staged_scene schedule.scene ≡ Err f) → (f ≡ Memory) ⊎ (schedule_scene bytes ≡ Err f)
refused_scene bytes schedule f lines (inl e) = inl e
refused_scene bytes schedule f lines (inr e) =
    inr (ap (λ (r : Result Schedule JobFault). next same r (λ s. staged_scene s.scene)) lines ∙ e)
