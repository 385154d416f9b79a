-- Turns of a viewer, one after another, and the texts that it then writes.
use Rattle.std.specs.Prelude.{◌≡◌, ℕ, zero, suc, ◌+◌, ◌-◌, ◌≤◌, ◌<◌, Bool, true, false, List}
use Rattle.std.specs.Prelude.{◌⊎◌, ◌++◌, slice_get, Option, None, Some, Result, Ok, Err}
use Rattle.x3d_values.specs.declared.pointing.Point.{Point}
use Rattle.x3d_values.specs.Stamp.{StampedView}
use Rattle.cascade_core.specs.declared.fault.TextFault.{TextFault}
use Rattle.cascade_core.specs.declared.fault.TextFault.TheVariants as text_fault
use Rattle.cascade_core.specs.Course.{Scripted}
use Rattle.cascade_core.specs.Texts.{texts}
use Rattle.share_law.specs.Viewer.{ViewerWorld, Running, ViewerState, applied_in}
use Rattle.share_core.specs.Viewer.{IfRunning, IfSpoiled, ViewerView, forgot_but, machine_of, with_state}
use Rattle.share_turns.specs.declared.traffic.Traffic.{Traffic}
use Rattle.share_turns.specs.declared.fault.SeriesFault.{SeriesFault}
use Rattle.share_turns.specs.declared.fault.SeriesFault.TheVariants.{Turn, TurnsUsedUp, Join}
use Rattle.share_turns.specs.declared.fault.TurnFault.{TurnFault}
use Rattle.share_turns.specs.declared.fault.TurnFault.TheVariants.{Memory, Spoiled}
use Rattle.share_turns.specs.declared.view.ViewPlan.{ViewPlan}
use Rattle.share_turns.specs.Gathers.{HasJoined, IsJoinEnd, with_both}
use Rattle.share_turns.specs.Gives.{Gives, IsGiveEnd}
use Rattle.share_turns.specs.HostTurn.{failures_after}
use Rattle.share_turns.specs.ViewerTurn.{IsViewerTurn}

-- ---- one turn

-- a turn of a viewer that leaves it in this state; a spoiled viewer does nothing
pub record IsTurnOf (v : ViewerView) (host : ℕ) (point : Option Point)
    (told_before told_after : Option (List Traffic)) (result : Result Bool TurnFault)
    (new : ViewerState Scripted) : Type 0 where
  pub spoiled : IfSpoiled v.state.view ((result ≡ Err Spoiled) × (new ≡ v.state)
      × (told_after ≡ told_before))
  pub turn : IfRunning v.state.view (λ w. IsViewerTurn (machine_of v) v.mark v.who host point
      told_before told_after v.state result new)

abbrev pub applied_by : ViewerView → ViewerState Scripted → ℕ
applied_by v x = applied_in (machine_of v) x.view

-- ---- old lines of the trace

-- a viewer without the lines of all inputs but the last `forget`; without a number it keeps all
abbrev pub forgot_as : (forget : Option ℕ) → ViewerState Scripted → ViewerState Scripted
forgot_as None x = x
forgot_as (Some last) x = forgot_but last x

-- between two turns a viewer forgets those lines, or waits until more are old
abbrev pub MayForget : (forget : Option ℕ) → (old new : ViewerState Scripted) → Type 0
MayForget forget old new = (new ≡ old) ⊎ (new ≡ forgot_as forget old)

-- ---- turns, one after another

-- the number of offered points after a turn that offered the next one or didn't
abbrev pub one_more_if : (offered : Bool) → ℕ → ℕ
one_more_if true n = n + 1
one_more_if false n = n

-- `turns` turns, each while too few inputs are applied. Each turn offers the first point that
-- wasn't offered yet, and `offered` points were offered in all. After each turn the viewer may
-- forget old lines.
abbrev pub ViewerTurns : ViewerView → (host : ℕ) → List Point → (until : ℕ)
    → (forget : Option ℕ) → (turns : ℕ) → (told_before told_after : Option (List Traffic))
    → (offered : ℕ) → ViewerState Scripted → Type 0
ViewerTurns v host points until forget zero a b offered new =
    (b ≡ a) × (offered ≡ 0) × (new ≡ v.state)
ViewerTurns v host points until forget (suc n) a b offered new =
    (between : Option (List Traffic)) × (before : ℕ) × (mid turned : ViewerState Scripted)
    × (did : Bool) × ViewerTurns v host points until forget n a between before mid
    × (applied_by v mid < until)
    × IsTurnOf (with_state v mid) host (slice_get points before) between b (Ok did) turned
    × MayForget forget turned new × (offered ≡ one_more_if did before)

-- `done` turns, until enough inputs are applied
pub record AreViewed (v : ViewerView) (host : ℕ) (points : List Point) (until : ℕ)
    (forget : Option ℕ) (done : ℕ) (told_before told_after : Option (List Traffic))
    (new : ViewerState Scripted) : Type 0 where
  pub offered : ℕ
  pub turned : ViewerTurns v host points until forget done told_before told_after offered new
  pub enough : until ≤ applied_by v new

-- all the turns were taken, and too few inputs are applied
pub record AreUsedUp (v : ViewerView) (host : ℕ) (points : List Point) (until : ℕ)
    (forget : Option ℕ) (turns : ℕ) (told_before told_after : Option (List Traffic))
    (new : ViewerState Scripted) : Type 0 where
  pub offered : ℕ
  pub turned : ViewerTurns v host points until forget turns told_before told_after offered new
  pub too_few : applied_by v new < until

-- turns, up to one that ended early
pub record AreStopped (v : ViewerView) (host : ℕ) (points : List Point) (until : ℕ)
    (forget : Option ℕ) (turns : ℕ) (told_before told_after : Option (List Traffic))
    (fault : TurnFault) (new : ViewerState Scripted) : Type 0 where
  pub done : ℕ
  pub fewer : done < turns
  pub between : Option (List Traffic)
  pub offered : ℕ
  pub mid : ViewerState Scripted
  pub before : ViewerTurns v host points until forget done told_before between offered mid
  pub too_few : applied_by v mid < until
  pub last : IsTurnOf (with_state v mid) host (slice_get points offered) between told_after
      (Err fault) new

abbrev pub IsViewEnd : ViewerView → (host : ℕ) → List Point → (until : ℕ) → (forget : Option ℕ)
    → (turns : ℕ) → (told_before told_after : Option (List Traffic)) → SeriesFault
    → ViewerState Scripted → Type 0
IsViewEnd v host points until forget turns a b TurnsUsedUp new =
    AreUsedUp v host points until forget turns a b new
IsViewEnd v host points until forget turns a b (Turn fault) new =
    AreStopped v host points until forget turns a b fault new
IsViewEnd v host points until forget turns a b (Join fault) new = ⊥

-- the number of sends and receives of a port that failed, after a series of turns
abbrev pub failures_in : {A : Type 0} → Result A SeriesFault → ℕ → ℕ
failures_in (Err (Turn fault)) n = failures_after {A = Unit {0}} (Err fault) n
failures_in result n = n

-- ---- texts

-- the viewer runs, and its trace and then its scene are appended
pub record AreAppended (v : ViewerView) (old new : List ℕ) : Type 0 where
  pub held : Scripted
  pub window : List (Option StampedView)
  pub runs : v.state.view ≡ Running held window
  pub texts : new ≡ old ++ texts v.scene v.routes held

abbrev pub turn_fault_of : TextFault → TurnFault
turn_fault_of text_fault.Spoiled = Spoiled
turn_fault_of text_fault.Memory = Memory

-- the viewer is spoiled, or memory was refused to a text
abbrev pub IsTextFault : ViewerWorld Scripted → TurnFault → Type 0
IsTextFault view Spoiled = IfRunning view (λ w. ⊥)
IsTextFault view Memory = IfSpoiled view ⊥
IsTextFault view fault = ⊥

-- ---- a whole run: a viewer joins, views and gives, as its plan says

-- the viewer joined, with this boot, in `used` of its turns; without a boot it is unchanged
abbrev pub IsBegunAs : ViewerView → (join : Option ℕ) → (turns used : ℕ)
    → (told_before told_after : Option (List Traffic)) → (new : ViewerView) → Type 0
IsBegunAs v None turns used a b new = (used ≡ 0) × (b ≡ a) × (new ≡ v)
IsBegunAs v (Some boot) turns used a b new =
    (used ≤ turns) × HasJoined v boot used a b new.state new.gathering
    × (new ≡ with_both v new.state new.gathering)

abbrev pub IsBeginEnd : ViewerView → (join : Option ℕ) → (turns : ℕ)
    → (told_before told_after : Option (List Traffic)) → SeriesFault → (new : ViewerView)
    → Type 0
IsBeginEnd v None turns a b fault new = ⊥
IsBeginEnd v (Some boot) turns a b fault new =
    IsJoinEnd v boot turns a b fault new.state new.gathering

-- the viewer gave its snapshot to a port in `turns` turns; without a port it took no turn
abbrev pub HasGiven : ViewerView → (give : Option ℕ) → (turns : ℕ)
    → (told_before told_after : Option (List Traffic)) → Type 0
HasGiven v None turns a b = b ≡ a
HasGiven v (Some to) turns a b = Gives v to turns a b

abbrev pub IsGivenEnd : ViewerView → (give : Option ℕ) → (turns : ℕ)
    → (told_before told_after : Option (List Traffic)) → TurnFault → Type 0
IsGivenEnd v None turns a b fault = ⊥
IsGivenEnd v (Some to) turns a b fault = IsGiveEnd v to turns a b fault

-- the viewer joined, then enough inputs were applied, and then all old lines were forgotten; `left`
-- turns remain
pub record HasViewed (v : ViewerView) (host : ℕ) (points : List Point) (plan : ViewPlan)
    (a b : Option (List Traffic)) (left : ℕ) (new : ViewerView) : Type 0 where
  pub joining : ℕ
  pub between : Option (List Traffic)
  pub begun : ViewerView
  pub joined : IsBegunAs v plan.join plan.turns joining a between begun
  pub viewing : ℕ
  pub most : viewing ≤ plan.turns - joining
  pub seen : ViewerState Scripted
  pub viewed : AreViewed begun host points plan.until plan.forget viewing between b seen
  pub same : new ≡ with_state begun (forgot_as plan.forget seen)
  pub is : left ≡ plan.turns - joining - viewing

-- then the viewer gave its snapshot in the remaining turns, and its texts are appended
pub record IsRun (v : ViewerView) (host : ℕ) (points : List Point) (plan : ViewPlan)
    (a b : Option (List Traffic)) (new : ViewerView) (before after : List ℕ) : Type 0 where
  pub left : ℕ
  pub between : Option (List Traffic)
  pub viewed : HasViewed v host points plan a between left new
  pub given : HasGiven new plan.give left between b
  pub texts : AreAppended new before after

-- the viewer joined, and then its turns of viewing ended with this fault
pub record IsViewCut (v : ViewerView) (host : ℕ) (points : List Point) (plan : ViewPlan)
    (a b : Option (List Traffic)) (fault : SeriesFault) (new : ViewerView) : Type 0 where
  pub joining : ℕ
  pub between : Option (List Traffic)
  pub begun : ViewerView
  pub joined : IsBegunAs v plan.join plan.turns joining a between begun
  pub ended : IsViewEnd begun host points plan.until plan.forget (plan.turns - joining) between b
      fault new.state

-- the viewer viewed, and then its turns of giving, or a text, ended with this fault
pub record IsLateCut (v : ViewerView) (host : ℕ) (points : List Point) (plan : ViewPlan)
    (a b : Option (List Traffic)) (fault : SeriesFault) (new : ViewerView) : Type 0 where
  pub left : ℕ
  pub between : Option (List Traffic)
  pub viewed : HasViewed v host points plan a between left new
  pub early : TurnFault
  pub is : fault ≡ Turn early
  pub ended : IsGivenEnd new plan.give left between b early
      ⊎ (HasGiven new plan.give left between b × IsTextFault new.state.view early)

abbrev pub IsRunEnd : ViewerView → (host : ℕ) → List Point → ViewPlan
    → (a b : Option (List Traffic)) → SeriesFault → (new : ViewerView) → Type 0
IsRunEnd v host points plan a b fault new =
    IsBeginEnd v plan.join plan.turns a b fault new
    ⊎ (IsViewCut v host points plan a b fault new ⊎ IsLateCut v host points plan a b fault new)
