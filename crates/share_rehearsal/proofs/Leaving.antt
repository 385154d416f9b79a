-- What a rehearsal leaves, by the law of the network that it stands for.
use Rattle.std.proofs.Common.{◌≡◌, ℕ, List, refl, ap, sym, ◌∙◌}
use Rattle.std.specs.Prelude.{slice_get, Option, Some, None}
use Rattle.std.specs.Option.{option_map}
use Rattle.std.proofs.lemmas.Option.{same_Some, none-some}
use Rattle.x3d_values.specs.Stamp.{StampedView}
use Rattle.scene_core.specs.declared.scene.Route.{Route}
use Rattle.scene_core.specs.Scene.{SceneView}
use Rattle.cascade_core.specs.Course.{Scripted}
use Rattle.cascade_core.specs.Texts.{scene_text, trace_text}
use Rattle.share_law.specs.Agreement.{Agreement, TwoViewersAgree}
use Rattle.share_law.specs.Cascade.{InEveryScene}
use Rattle.share_law.specs.Floors.{FloorStands}
use Rattle.share_law.specs.Lists.{ListGrows, WindowsAreAhead}
use Rattle.share_law.specs.Network.{Network, Seat}
use Rattle.share_law.specs.Reached.{IsRunning}
use Rattle.share_law.specs.Viewer.{Running}
use Rattle.share_core.specs.Host.{HostView}
use Rattle.share_core.specs.Viewer.{ViewerView}
use Rattle.share_rehearsal.specs.Calls.{Seen}
use Rattle.share_rehearsal.specs.Laws.{HostHolds, IsLeft, OfRehearsals, TimesRise, ViewersAgree, ViewersHold, WindowsHold}
use Rattle.share_rehearsal.specs.Stands.{StandFor, viewer_at}

-- the viewer of a seat that runs
record Runs (scene : SceneView) (routes : List Route) (net : Network Scripted) (v : ℕ) (x : ViewerView) (held : Scripted) (window : List (Option StampedView)) : Type 0 where
  running : IsRunning net v held window
  own_scene : x.scene ≡ scene
  own_routes : x.routes ≡ routes

seat_runs : (mark : List ℕ) (scene : SceneView) (routes : List Route) (net : Network Scripted) (v : ℕ) (x : ViewerView) (held : Scripted) (window : List (Option StampedView)) (seat : Option (Seat Scripted))
    → slice_get net.viewers v ≡ seat → Some x ≡ option_map (viewer_at mark scene routes v) seat → x.state.view ≡ Running held window → Runs scene routes net v x held window
seat_runs mark scene routes net v x held window None at is runs = absurd (none-some x (sym is))
seat_runs mark scene routes net v x held window (Some seat) at is runs =
    let own : x ≡ viewer_at mark scene routes v seat = same_Some x (viewer_at mark scene routes v seat) is in
    record {
      running = record { seat = seat; is = at; view = sym (ap (λ (z : ViewerView). z.state.view) own) ∙ runs };
      own_scene = ap (λ (z : ViewerView). z.scene) own;
      own_routes = ap (λ (z : ViewerView). z.routes) own;
    }

left_runs : (mark : List ℕ) (scene : SceneView) (routes : List Route) (left : Seen) (net : Network Scripted) (v : ℕ) (x : ViewerView) (held : Scripted) (window : List (Option StampedView))
    → StandFor mark scene routes left net → IsLeft left v x held window → Runs scene routes net v x held window
left_runs mark scene routes left net v x held window stand is =
    seat_runs mark scene routes net v x held window (slice_get net.viewers v) refl (sym is.is ∙ stand.viewers v) is.runs

pub viewers_hold : ((mark : List ℕ) (scene : SceneView) (routes : List Route) → Agreement mark scene routes) → OfRehearsals ViewersHold
viewers_hold law mark scene routes viewers steps answers left r v x held window is =
    let seat = left_runs mark scene routes left r.net v x held window r.stand is in
    law mark scene routes r.net r.reached v held window seat.running

pub viewers_agree : ((mark : List ℕ) (scene : SceneView) (routes : List Route) → TwoViewersAgree mark scene routes) → OfRehearsals ViewersAgree
viewers_agree law mark scene routes viewers steps answers left r v other x y held theirs window their_window is also level =
    let one = left_runs mark scene routes left r.net v x held window r.stand is in
    let two = left_runs mark scene routes left r.net other y theirs their_window r.stand also in
    let same = law mark scene routes r.net r.reached v other held theirs window their_window one.running two.running level in (
      same.0,
      ap (λ (s : SceneView). scene_text s x.routes held) one.own_scene ∙ ap (λ (l : List Route). scene_text scene l held) one.own_routes ∙ same.1
          ∙ sym (ap (λ (s : SceneView). scene_text s y.routes theirs) two.own_scene ∙ ap (λ (l : List Route). scene_text scene l theirs) two.own_routes),
      ap (λ (s : SceneView). trace_text s held) one.own_scene ∙ same.2 ∙ sym (ap (λ (s : SceneView). trace_text s theirs) two.own_scene),
    )

pub windows_hold : InEveryScene WindowsAreAhead → OfRehearsals WindowsHold
windows_hold law mark scene routes viewers steps answers left r v x held window is =
    let seat = left_runs mark scene routes left r.net v x held window r.stand is in
    law mark scene routes r.net r.reached v held window seat.running

pub times_rise : InEveryScene ListGrows → OfRehearsals TimesRise
times_rise law mark scene routes viewers steps answers left r = (law mark scene routes r.net r.reached).0

pub host_holds : InEveryScene FloorStands → OfRehearsals HostHolds
host_holds law mark scene routes viewers steps answers left r =
    let stands = law mark scene routes r.net r.reached in (
      r.net.host,
      refl,
      record { same = sym (ap (λ (h : HostView). h.part) r.stand.host); from_one = stands.from_one; at_most = stands.at_most },
    )
