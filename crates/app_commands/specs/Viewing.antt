-- What a viewer does with a job.
use Rattle.std.specs.Prelude.{◌≡◌, ℕ, ◌-◌, max, Bool, if◌then◌else◌, List, [], ◌∷◌, Option, None, Ok}
use Rattle.std.specs.List.{flat_map}
use Rattle.x3d_values.specs.declared.pointing.Point.{Point}
use Rattle.x3d_values.specs.Stamp.{StampedView}
use Rattle.x3d_values.specs.declared.stamped.Cause.{Cause}
use Rattle.x3d_values.specs.declared.stamped.Cause.TheVariants.{Clock, Pointer}
use Rattle.cascade_core.specs.Apply.{opening}
use Rattle.share_law.specs.Viewer.{begun, point_of}
use Rattle.share_core.specs.Viewer.{ViewerView}
use Rattle.share_turns.specs.declared.traffic.Traffic.{Traffic}
use Rattle.share_turns.specs.Gives.{IsGiveEnd}
use Rattle.share_turns.specs.Views.{IsRun, IsRunEnd}
use Rattle.share_turns.specs.declared.view.ViewPlan.{ViewPlan}
use Rattle.share_turns.specs.declared.fault.SeriesFault.{SeriesFault}
use Rattle.share_turns.specs.declared.fault.TurnFault.{TurnFault}
use Rattle.app_commands.specs.Hosting.{series_fault, share_fault}
use Rattle.app_commands.specs.Jobs.{staffed}
use Rattle.app_commands.specs.declared.job.SharedJob.{SharedJob}
use Rattle.app_words.specs.declared.order.Order.{Order}
use Rattle.app_program.specs.declared.fault.ShareFault.{ShareFault}

-- the points that an input asks a viewer to offer
abbrev pub pointed : Cause → List Point
pointed Clock = []
pointed (Pointer p) = point_of p ∷ []

abbrev pub points : List StampedView → List Point
points inputs = flat_map (λ input. pointed input.cause) inputs

-- a viewer of the job's scene, with this boot, before any input
abbrev pub viewer_of : SharedJob → (who boot : ℕ) → ViewerView
viewer_of job who boot = record {
  mark = job.mark;
  who = who;
  scene = job.scene;
  routes = job.routes;
  state = begun boot (opening job.scene job.routes);
  gathering = None;
}

-- the boot with which a viewer begins. A viewer that joins begins with the boot before, if there is
-- one
abbrev pub first_boot : (boot : ℕ) → (joins : Bool) → ℕ
first_boot boot joins = if joins then max (boot - 1) 1 else boot

-- the viewer of the job of bytes, before any input, and the points that it is asked to offer
abbrev pub IsSeated : Order → (bytes : List ℕ) → (who boot : ℕ) → ViewerView → List Point → Type 0
IsSeated order bytes who boot viewer asked =
    (job : SharedJob) × (staffed order bytes ≡ Ok job)
    × (viewer ≡ viewer_of job who boot) × (asked ≡ points job.inputs)

-- the plan without its giving
abbrev pub alone : ViewPlan → ViewPlan
alone plan = record plan { give = None }

-- a viewer joined and viewed as its plan says, and gave nothing yet; the text is its trace and its
-- scene
abbrev pub IsViewed : ViewerView → List Point → (host : ℕ) → ViewPlan
    → (told_before told_after : Option (List Traffic)) → ViewerView → (text : List ℕ) → Type 0
IsViewed viewer asked host plan a b new text = IsRun viewer host asked (alone plan) a b new [] text

-- the viewer's turns or its texts ended early
abbrev pub IsViewedInPart : ViewerView → List Point → (host : ℕ) → ViewPlan
    → (told_before told_after : Option (List Traffic)) → ViewerView → ShareFault → Type 0
IsViewedInPart viewer asked host plan a b new fault =
    (early : SeriesFault) × (fault ≡ series_fault early)
    × IsRunEnd viewer host asked (alone plan) a b early new

-- the viewer's turns of giving ended early, or it has no snapshot
abbrev pub IsGivenInPart : ViewerView → (to turns : ℕ)
    → (told_before told_after : Option (List Traffic)) → ShareFault → Type 0
IsGivenInPart viewer to turns a b fault =
    (early : TurnFault) × (fault ≡ share_fault early) × IsGiveEnd viewer to turns a b early
