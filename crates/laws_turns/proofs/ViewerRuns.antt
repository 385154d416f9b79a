-- A whole run of a viewer: it joins, views and gives.
use Rattle.std.proofs.Common.{◌≡◌, inl, inr, ℕ, ◌-◌, List, refl, ap, sym, ◌∙◌, subst}
use Rattle.std.specs.Prelude.{Option, None, Some}
use Rattle.x3d_values.specs.declared.pointing.Point.{Point}
use Rattle.share_law.specs.Pieces.{Gathering}
use Rattle.share_core.specs.Viewer.{ViewerView, with_state}
use Rattle.share_turns.specs.declared.fault.SeriesFault.{SeriesFault}
use Rattle.share_turns.specs.declared.fault.TurnFault.{TurnFault}
use Rattle.share_turns.specs.declared.traffic.Traffic.{Traffic}
use Rattle.share_turns.specs.declared.view.ViewPlan.{ViewPlan}
use Rattle.share_turns.specs.Gathers.{with_both}
use Rattle.share_turns.specs.Views.{HasGiven, HasViewed, IsBeginEnd, IsBegunAs, IsGivenEnd, IsLateCut, IsRun, IsRunEnd, forgot_as}
use Rattle.laws_turns.specs.ViewerDoings.{ViewerDoes}
use Rattle.laws_turns.specs.Turns.{ViewerRunsAreCalls}
use Rattle.laws_turns.proofs.Viewers.{does_none, does_then}
use Rattle.laws_turns.proofs.ViewerTurns.{does_silently, forgets_as, turns, view_end}
use Rattle.laws_turns.proofs.Joining.{join_end, joined}
use Rattle.laws_turns.proofs.Giving.{gives, gives_end}

begun : (v : ViewerView) (join : Option ℕ) (n used : ℕ) (a b : Option (List Traffic)) (new : ViewerView) → IsBegunAs v join n used a b new → ViewerDoes a b v new
begun v None n used a b new j = does_none a b v new j.1 j.2
begun v (Some boot) n used a b new j = subst (ViewerDoes a b v) (sym j.2) (joined v boot used a b new.state new.gathering j.1)

given : (v : ViewerView) (give : Option ℕ) (n : ℕ) (a b : Option (List Traffic)) → HasGiven v give n a b → ViewerDoes a b v v
given v None n a b g = does_none a b v v g refl
given v (Some to) n a b g = gives v to n a b g

given-end : (v : ViewerView) (give : Option ℕ) (n : ℕ) (a b : Option (List Traffic)) (fault : TurnFault) → IsGivenEnd v give n a b fault → ViewerDoes a b v v
given-end v None n a b fault g = absurd g
given-end v (Some to) n a b fault g = gives_end v to n a b fault g

viewed : (v : ViewerView) (host : ℕ) (points : List Point) (plan : ViewPlan) (a b : Option (List Traffic)) (left : ℕ) (new : ViewerView) → HasViewed v host points plan a b left new → ViewerDoes a b v new
viewed v host points plan a b left new h =
    let seen = with_state h.begun h.seen in
    subst (ViewerDoes a b v) (sym h.same)
    (does_then a h.between b v h.begun (with_state seen (forgot_as plan.forget h.seen)) (begun v plan.join plan.turns h.joining a h.between h.begun h.joined)
    (does_then h.between b b h.begun seen (with_state seen (forgot_as plan.forget h.seen))
    (turns h.begun host points plan.until plan.forget h.viewing h.between b h.viewed.offered h.seen h.viewed.turned)
    (does_silently b seen (with_state seen (forgot_as plan.forget h.seen)) (forgets_as seen plan.forget))))

late : (v : ViewerView) (host : ℕ) (points : List Point) (plan : ViewPlan) (a b : Option (List Traffic)) (fault : SeriesFault) (new : ViewerView) → IsLateCut v host points plan a b fault new → ViewerDoes a b v new
late v host points plan a b fault new c =
    let before = viewed v host points plan a c.between c.left new c.viewed in
    elim c.ended [
      | inl end ↦ does_then a c.between b v new new before (given-end new plan.give c.left c.between b c.early end)
      | inr text ↦ does_then a c.between b v new new before (given new plan.give c.left c.between b text.0)
    ]

viewer-runs-done : (v : ViewerView) (host : ℕ) (points : List Point) (plan : ViewPlan) (a b : Option (List Traffic)) (new : ViewerView) (before after : List ℕ) → IsRun v host points plan a b new before after → ViewerDoes a b v new
viewer-runs-done v host points plan a b new before after r =
    does_then a r.between b v new new (viewed v host points plan a r.between r.left new r.viewed) (given new plan.give r.left r.between b r.given)

-- what a viewer was started with changes its state and what it gathered alone
kept : (v : ViewerView) (join : Option ℕ) (n used : ℕ) (a b : Option (List Traffic)) (new : ViewerView) → IsBegunAs v join n used a b new → new ≡ with_both v new.state new.gathering
kept v None n used a b new j = subst (λ (x : ViewerView). new ≡ with_both x new.state new.gathering) j.2 refl
kept v (Some boot) n used a b new j = j.2

begin-end : (v : ViewerView) (join : Option ℕ) (n : ℕ) (a b : Option (List Traffic)) (fault : SeriesFault) (new : ViewerView) → IsBeginEnd v join n a b fault new → ViewerDoes a b v (with_both v new.state new.gathering)
begin-end v None n a b fault new e = absurd e
begin-end v (Some boot) n a b fault new e = join_end v boot n a b fault new.state new.gathering e

viewer-runs-ended : (v : ViewerView) (host : ℕ) (points : List Point) (plan : ViewPlan) (a b : Option (List Traffic)) (fault : SeriesFault) (new : ViewerView) → IsRunEnd v host points plan a b fault new
    → (held : Option Gathering) × ViewerDoes a b v (with_both v new.state held)
viewer-runs-ended v host points plan a b fault new (inl e) = (new.gathering, begin-end v plan.join plan.turns a b fault new e)
viewer-runs-ended v host points plan a b fault new (inr (inl c)) =
    let same = ap (λ (x : ViewerView). with_state x new.state) (kept v plan.join plan.turns c.joining a c.between c.begun c.joined) in (
      c.begun.gathering,
      subst (ViewerDoes a b v) same
          (does_then a c.between b v c.begun (with_state c.begun new.state) (begun v plan.join plan.turns c.joining a c.between c.begun c.joined)
          (view_end c.begun host points plan.until plan.forget (plan.turns - c.joining) c.between b fault new.state c.ended)),
    )
viewer-runs-ended v host points plan a b fault new (inr (inr c)) =
    let h = c.viewed in
    let last : new ≡ with_state h.begun new.state = h.same ∙ ap (with_state h.begun) (sym (ap (λ (x : ViewerView). x.state) h.same)) in
    let same = last ∙ ap (λ (x : ViewerView). with_state x new.state) (kept v plan.join plan.turns h.joining a h.between h.begun h.joined) in
    (h.begun.gathering, subst (ViewerDoes a b v) same (late v host points plan a b fault new c))

pub viewer_runs_are_calls : ViewerRunsAreCalls
viewer_runs_are_calls = record {
  done = viewer-runs-done;
  ended = viewer-runs-ended;
}
