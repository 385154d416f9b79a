-- A whole run of a viewer: it joins, views and gives.
use Rattle.std.proofs.Common.{◌≡◌, ℕ, ◌-◌, ◌≤◌, List, refl, ap, sym, ◌∙◌, inl, inr}
use Rattle.std.specs.Prelude.{Option, Result, Ok, Err, IfOk}
use Rattle.x3d_values.specs.declared.pointing.Point.{Point}
use Rattle.cascade_core.specs.Course.{Scripted}
use Rattle.share_law.specs.Pieces.{Gathering}
use Rattle.share_law.specs.Viewer.{ViewerState}
use Rattle.share_core.specs.Viewer.{ViewerView, with_state}
use Rattle.share_turns.specs.declared.traffic.Traffic.{Traffic}
use Rattle.share_turns.specs.declared.fault.SeriesFault.{SeriesFault}
use Rattle.share_turns.specs.declared.fault.SeriesFault.TheVariants as series
use Rattle.share_turns.specs.declared.fault.TurnFault.{TurnFault}
use Rattle.share_turns.specs.declared.fault.TurnFault.TheVariants as turn_fault
use Rattle.share_turns.specs.declared.view.ViewPlan.{ViewPlan}
use Rattle.share_turns.specs.Gathers.{with_both}
use Rattle.share_turns.specs.Views.{AreAppended, AreViewed, HasGiven, HasViewed, IsBegunAs, IsGivenEnd, IsLateCut, IsRun, IsTextFault, IsViewCut, IsViewEnd, failures_in, forgot_as}

-- three facts of one answer
pub begun_as : (result : Result ℕ SeriesFault) (P Q : ℕ → Type 0) (X : Type 0) → IfOk result P → IfOk result Q → X → IfOk result (λ used. P used × Q used × X)
begun_as (Ok n) P Q X p q x = (p, q, x)
begun_as (Err fault) P Q X p q x = tt

-- what came of a viewer that began is what came of it
pub same_both : (v begun new : ViewerView) → begun ≡ with_both v begun.state begun.gathering → new ≡ with_state begun new.state → new ≡ with_both v new.state new.gathering
same_both v begun new first then =
    let gathering : begun.gathering ≡ new.gathering = sym (ap (λ (z : ViewerView). z.gathering) then) in
    then ∙ ap (λ (z : ViewerView). with_state z new.state) first ∙ ap (λ (g : Option Gathering). with_both v new.state g) gathering

pub has_viewed : (v begun seen new : ViewerView) (host : ℕ) (points : List Point) (plan : ViewPlan) (joining viewing : ℕ) (a b c : Option (List Traffic))
    → IsBegunAs v plan.join plan.turns joining a b begun → viewing ≤ plan.turns - joining → AreViewed begun host points plan.until plan.forget viewing b c seen.state
    → seen ≡ with_state begun seen.state → new ≡ with_state seen (forgot_as plan.forget seen.state) → HasViewed v host points plan a c (plan.turns - joining - viewing) new
has_viewed v begun seen new host points plan joining viewing a b c joined most viewed same then = record {
  joining = joining;
  between = b;
  begun = begun;
  joined = joined;
  viewing = viewing;
  most = most;
  seen = seen.state;
  viewed = viewed;
  same = then ∙ ap (λ (z : ViewerView). with_state z (forgot_as plan.forget seen.state)) same;
  is = refl;
}

-- what comes of a viewer that saw enough
pub same_rest : (begun seen new : ViewerView) (forget : Option ℕ) → seen ≡ with_state begun seen.state → new ≡ with_state seen (forgot_as forget seen.state) → new ≡ with_state begun new.state
same_rest begun seen new forget same then =
    let whole : new ≡ with_state begun (forgot_as forget seen.state) = then ∙ ap (λ (z : ViewerView). with_state z (forgot_as forget seen.state)) same in
    whole ∙ ap (λ (x : ViewerState Scripted). with_state begun x) (sym (ap (λ (z : ViewerView). z.state) whole))

pub view_cut : (v begun new : ViewerView) (host : ℕ) (points : List Point) (plan : ViewPlan) (joining : ℕ) (a b c : Option (List Traffic)) (fault : SeriesFault)
    → IsBegunAs v plan.join plan.turns joining a b begun → IsViewEnd begun host points plan.until plan.forget (plan.turns - joining) b c fault new.state
    → IsViewCut v host points plan a c fault new
view_cut v begun new host points plan joining a b c fault joined ended =
    record { joining = joining; between = b; begun = begun; joined = joined; ended = ended }

pub given_cut : (v new : ViewerView) (host : ℕ) (points : List Point) (plan : ViewPlan) (left : ℕ) (a b c : Option (List Traffic)) (fault : TurnFault)
    → HasViewed v host points plan a b left new → IsGivenEnd new plan.give left b c fault → IsLateCut v host points plan a c (series.Turn fault) new
given_cut v new host points plan left a b c fault viewed ended =
    record { left = left; between = b; viewed = viewed; early = fault; is = refl; ended = inl ended }

pub text_cut : (v new : ViewerView) (host : ℕ) (points : List Point) (plan : ViewPlan) (left : ℕ) (a b c : Option (List Traffic)) (fault : TurnFault)
    → HasViewed v host points plan a b left new → HasGiven new plan.give left b c → IsTextFault new.state.view fault → IsLateCut v host points plan a c (series.Turn fault) new
text_cut v new host points plan left a b c fault viewed given text =
    record { left = left; between = b; viewed = viewed; early = fault; is = refl; ended = inr (given, text) }

pub run_done : (v new : ViewerView) (host : ℕ) (points : List Point) (plan : ViewPlan) (left : ℕ) (a b c : Option (List Traffic)) (before after : List ℕ)
    → HasViewed v host points plan a b left new → HasGiven new plan.give left b c → AreAppended new before after → IsRun v host points plan a c new before after
run_done v new host points plan left a b c before after viewed given texts =
    record { left = left; between = b; viewed = viewed; given = given; texts = texts }

-- a text fails no port
pub failures_of_text : (v : ViewerView) (fault : TurnFault) (n m : ℕ) → IsTextFault v.state.view fault → m ≡ n → m ≡ failures_in {A = Unit {0}} (Err (series.Turn fault)) n
failures_of_text v turn_fault.Port n m text e = absurd text
failures_of_text v turn_fault.Spoiled n m text e = e
failures_of_text v turn_fault.Memory n m text e = e

-- whatever a series that ended early was to answer
pub failures_of_series : (fault : SeriesFault) (n m : ℕ) → m ≡ failures_in {A = ℕ} (Err fault) n → m ≡ failures_in {A = Unit {0}} (Err fault) n
failures_of_series (series.Turn turn_fault.Port) n m e = e
failures_of_series (series.Turn turn_fault.Spoiled) n m e = e
failures_of_series (series.Turn turn_fault.Memory) n m e = e
failures_of_series series.TurnsUsedUp n m e = e
failures_of_series (series.Join fault) n m e = e
