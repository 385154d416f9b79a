-- The job of bytes with its viewers, part by part.
use Rattle.std.proofs.Common.{◌≡◌, ◌⊎◌, inl, inr, ℕ, List, refl, sym, ◌∙◌, ap}
use Rattle.std.specs.Prelude.{Option, None, Some, Result, Ok, Err, replicate}
use Rattle.sha2.specs.Sha256.{sha256}
use Rattle.x3d_values.specs.Stamp.{StampedView}
use Rattle.cascade_core.specs.Held.{StageView}
use Rattle.share_core.specs.Viewer.{ViewerView}
use Rattle.app_jobs.specs.Job.{Lined, job_lines}
use Rattle.app_jobs.specs.declared.fault.JobFault.{JobFault}
use Rattle.app_jobs.specs.declared.fault.JobFault.TheVariants.{Memory}
use Rattle.app_program.specs.Opening.{next, opened, same}
use Rattle.app_program.specs.declared.open.OpenedScene.{OpenedScene}
use Rattle.share_rehearsal.specs.Calls.{viewers_from}
use Rattle.app_words.specs.declared.order.Order.{Order}
use Rattle.app_commands.specs.Fits.{fits}
use Rattle.app_commands.specs.Jobs.{fitting, if_fits, if_scripted, shared, staffed, with_mark}
use Rattle.app_commands.specs.Joining.{IsJoint, IsStaged, Joint}
use Rattle.app_commands.specs.Stages.{AreStages, fresh, scripts_refusal, unless_refused}
use Rattle.app_commands.proofs.Staging.{is_staged_scene, same_ok}
use Rattle.app_commands.specs.declared.job.SharedJob.{SharedJob}

-- the job of these lines and this scene
abbrev job_of : Lined → OpenedScene → SharedJob
job_of lined o = record {
  inputs = lined.inputs;
  mark = sha256 lined.scene;
  scene = o.scene;
  routes = o.routes;
}

is_shared : (bytes : List ℕ) (lined : Lined) (o : OpenedScene) → job_lines bytes ≡ Ok lined → opened lined.scene ≡ Ok o
    → shared bytes ≡ Ok (job_of lined o)
unfolding shared
is_shared bytes lined o lines is =
    ap (λ (r : Result Lined JobFault). next same r (λ l. next same (opened l.scene) (with_mark l))) lines
    ∙ ap (λ (r : Result OpenedScene JobFault). next same r (with_mark lined)) is

pub is_fitting : (order : Order) (bytes : List ℕ) (job : SharedJob) → shared bytes ≡ Ok job → fits order job.inputs ≡ Ok tt
    → fitting order bytes ≡ Ok job
unfolding fitting
is_fitting order bytes job is fit =
    ap (λ (r : Result SharedJob JobFault). next same r (if_fits order)) is
    ∙ ap (λ (r : Result (Unit {0}) JobFault). next same r (λ _. Ok job)) fit

fits_lined : (order : Order) (bytes : List ℕ) (lined : Lined) (o : OpenedScene) → job_lines bytes ≡ Ok lined → opened lined.scene ≡ Ok o
    → fits order lined.inputs ≡ Ok tt → fitting order bytes ≡ Ok (job_of lined o)
fits_lined order bytes lined o lines is fit = is_fitting order bytes (job_of lined o) (is_shared bytes lined o lines is) fit

pub is_staffed : (order : Order) (bytes : List ℕ) (job : SharedJob) → fitting order bytes ≡ Ok job → scripts_refusal job.scene ≡ None
    → staffed order bytes ≡ Ok job
unfolding staffed
is_staffed order bytes job is taken =
    ap (λ (r : Result SharedJob JobFault). next same r if_scripted) is
    ∙ ap (λ (f : Option JobFault). unless_refused job f) taken

pub is_staged : (order : Order) (viewers : ℕ) (bytes : List ℕ) (lined : Lined) (o : OpenedScene) (stages : List StageView)
    → job_lines bytes ≡ Ok lined → opened lined.scene ≡ Ok o → fits order lined.inputs ≡ Ok tt → scripts_refusal o.scene ≡ None
    → AreStages viewers lined.scene stages
    → IsStaged order viewers bytes lined.inputs (sha256 lined.scene) stages
is_staged order viewers bytes lined o stages lines is fit taken are =
    let job = job_of lined o in
    let same_scene : are.scene ≡ o = same_ok {E = JobFault} are.scene o (sym are.is_scene ∙ is_staged_scene lined.scene o is taken) in (
      job,
      is_staffed order bytes job (fits_lined order bytes lined o lines is fit) taken,
      refl,
      refl,
      are.are ∙ ap (λ (s : OpenedScene). replicate viewers (fresh s)) same_scene,
    )

-- the lines or the scene are refused
pub refused_shared : (order : Order) (bytes : List ℕ) (f : JobFault) → (f ≡ Memory) ⊎ (shared bytes ≡ Err f)
    → (f ≡ Memory) ⊎ (staffed order bytes ≡ Err f)
unfolding fitting staffed
refused_shared order bytes f (inl e) = inl e
refused_shared order bytes f (inr e) =
    inr (ap (λ (r : Result SharedJob JobFault). next same (next same r (if_fits order)) if_scripted) e)

pub refused_lines : (order : Order) (bytes : List ℕ) (f : JobFault) → (f ≡ Memory) ⊎ (job_lines bytes ≡ Err f)
    → (f ≡ Memory) ⊎ (staffed order bytes ≡ Err f)
unfolding shared
refused_lines order bytes f (inl e) = inl e
refused_lines order bytes f (inr e) =
    refused_shared order bytes f (inr (ap (λ (r : Result Lined JobFault). next same r (λ l. next same (opened l.scene) (with_mark l))) e))

pub refused_scene : (order : Order) (bytes : List ℕ) (lined : Lined) (f : JobFault) → job_lines bytes ≡ Ok lined
    → (f ≡ Memory) ⊎ (opened lined.scene ≡ Err f) → (f ≡ Memory) ⊎ (staffed order bytes ≡ Err f)
unfolding shared
refused_scene order bytes lined f lines (inl e) = inl e
refused_scene order bytes lined f lines (inr e) =
    refused_shared order bytes f (inr (ap (λ (r : Result Lined JobFault). next same r (λ l. next same (opened l.scene) (with_mark l))) lines
    ∙ ap (λ (r : Result OpenedScene JobFault). next same r (with_mark lined)) e))

-- the command doesn't take the steps
pub refused_steps : (order : Order) (bytes : List ℕ) (lined : Lined) (o : OpenedScene) (f : JobFault)
    → job_lines bytes ≡ Ok lined → opened lined.scene ≡ Ok o → fits order lined.inputs ≡ Err f
    → (f ≡ Memory) ⊎ (staffed order bytes ≡ Err f)
unfolding fitting staffed
refused_steps order bytes lined o f lines is e =
    let job = job_of lined o in
    inr (ap (λ (r : Result SharedJob JobFault). next same (next same r (if_fits order)) if_scripted) (is_shared bytes lined o lines is)
    ∙ ap (λ (r : Result (Unit {0}) JobFault). next same (next same r (λ _. Ok job)) if_scripted) e)

-- the scripts of a job that the command takes are refused
pub refused_scripts : (order : Order) (bytes : List ℕ) (job : SharedJob) (f : JobFault) → fitting order bytes ≡ Ok job
    → (f ≡ Memory) ⊎ (scripts_refusal job.scene ≡ Some f) → (f ≡ Memory) ⊎ (staffed order bytes ≡ Err f)
unfolding staffed
refused_scripts order bytes job f is (inl e) = inl e
refused_scripts order bytes job f is (inr e) =
    inr (ap (λ (r : Result SharedJob JobFault). next same r if_scripted) is
    ∙ ap (λ (g : Option JobFault). unless_refused job g) e)

pub refused_boxes : (order : Order) (bytes : List ℕ) (lined : Lined) (o : OpenedScene) (f : JobFault)
    → job_lines bytes ≡ Ok lined → opened lined.scene ≡ Ok o → fits order lined.inputs ≡ Ok tt
    → (f ≡ Memory) ⊎ (scripts_refusal o.scene ≡ Some f) → (f ≡ Memory) ⊎ (staffed order bytes ≡ Err f)
refused_boxes order bytes lined o f lines is fit e =
    refused_scripts order bytes (job_of lined o) f (fits_lined order bytes lined o lines is fit) e

abbrev joint : List StampedView → List ℕ → List ViewerView → Joint
joint inputs mark viewers = record { inputs = inputs; mark = mark; viewers = viewers }

pub is_joint : (order : Order) (viewers : ℕ) (bytes : List ℕ) (inputs : List StampedView) (mark : List ℕ)
    (stages : List StageView) (own_inputs : List StampedView) (own_mark : List ℕ) (own_viewers : List ViewerView)
    → IsStaged order viewers bytes inputs mark stages
    → own_inputs ≡ inputs → own_mark ≡ mark → own_viewers ≡ viewers_from mark 0 stages
    → IsJoint order viewers bytes (record { inputs = own_inputs; mark = own_mark; viewers = own_viewers })
is_joint order viewers bytes inputs mark stages own_inputs own_mark own_viewers staged e m v =
    let job = staged.0 in
    let seated = v ∙ ap (λ (k : List ℕ). viewers_from k 0 stages) staged.3 ∙ ap (viewers_from job.mark 0) staged.4 in (
      job,
      staged.1,
      ap (λ (i : List StampedView). joint i own_mark own_viewers) (e ∙ staged.2)
          ∙ ap (λ (k : List ℕ). joint job.inputs k own_viewers) (m ∙ staged.3) ∙ ap (joint job.inputs job.mark) seated,
    )
