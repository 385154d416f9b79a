-- New peers, and what follows for real peers from the law of the network.
use Rattle.std.proofs.Common.{◌≡◌, ℕ, List, [], ◌∷◌, refl, ap, sym, ◌∙◌, append-nil}
use Rattle.std.specs.Prelude.{slice_get, Option, Some}
use Rattle.std.specs.Option.{option_map}
use Rattle.std.proofs.lemmas.Option.{none-some, slice_get-map}
use Rattle.x3d_values.specs.Stamp.{StampedView}
use Rattle.scene_core.specs.declared.scene.Route.{Route}
use Rattle.scene_core.specs.Scene.{SceneView}
use Rattle.cascade_core.specs.Course.{Scripted}
use Rattle.cascade_core.specs.Held.{StageView}
use Rattle.share_law.specs.Agreement.{Agreement, TwoViewersAgree}
use Rattle.share_law.specs.Lists.{IsPrefixOf}
use Rattle.share_law.specs.Machine.{Machine}
use Rattle.share_law.specs.Network.{Network, seated}
use Rattle.share_law.specs.Reached.{IsRunning}
use Rattle.share_law.specs.Viewer.{Running}
use Rattle.share_law.proofs.Effects.{Effect, packet, saves, IsStep-effect}
use Rattle.share_core.specs.Viewer.{ViewerView}
use Rattle.laws_calls.specs.Peers.{Peers, AreIn, machine_for, viewer_at}
use Rattle.laws_calls.specs.Begins.{NewPeersBegin, SentStays, ViewersAgree, ViewersHold, viewer_before}
use Rattle.laws_calls.proofs.Places.{twice}
use Rattle.laws_calls.proofs.Viewers.{seat_of}

-- ---- the start

pub begins : NewPeersBegin
begins ps boots new = record {
  opened = new.opened;
  attached = new.attached;
  reached = record {
    boots = boots;
    at_least_one = new.at_least_one;
    few = new.few;
    from_one = new.from_one;
    steps = [];
    answers = [];
    run = refl;
  };
  host = new.host;
  viewers = λ who. new.viewers who ∙ sym (twice (slice_get boots who) (seated (machine_for ps)) (viewer_at ps who))
      ∙ ap (option_map (viewer_at ps who)) (sym (slice_get-map (seated (machine_for ps)) boots who));
  boots = λ s shot at. absurd (none-some shot at);
  lines = λ s shot at. absurd (none-some shot at);
}

-- ---- packets and snapshots stay

abbrev Stay : Network Scripted → Network Scripted → Type 0
Stay net next = IsPrefixOf net.sent next.sent × IsPrefixOf net.shots next.shots

same : {A : Type 0} (xs : List A) → IsPrefixOf xs xs
same xs = ([], append-nil xs)

stay : (m : Machine Scripted) (net next : Network Scripted) → Effect m net next → Stay net next
stay m net next (packet body may) = ((body ∷ [], refl), same net.shots)
stay m net next (saves v x w window at view) = (same net.sent, (_, refl))
stay m net next other = (same net.sent, same net.shots)

pub stays : SentStays
stays ps net next step answer is = stay (machine_for ps) net next (IsStep-effect (machine_for ps) net step answer next is)

-- ---- the law

-- a real viewer that runs does so in its seat
running : (ps : Peers) (net : Network Scripted) (are : AreIn ps net) (viewer : ViewerView) (w : Scripted) (window : List (Option StampedView))
    → slice_get ps.viewers viewer.who ≡ Some viewer → viewer.state.view ≡ Running w window → IsRunning net viewer.who w window
running ps net are viewer w window at view =
    let s = seat_of ps net viewer (record { are = are; at = at }) in
    record { seat = s.0; is = s.1; view = ap (λ (v : ViewerView). v.state.view) s.2 ∙ view }

pub hold : ((mark : List ℕ) (scene : SceneView) (routes : List Route) → Agreement mark scene routes) → ViewersHold
hold law ps net are viewer w window at view = law ps.mark ps.scene ps.routes net are.reached viewer.who w window (running ps net are viewer w window at view)

pub agree : ((mark : List ℕ) (scene : SceneView) (routes : List Route) → TwoViewersAgree mark scene routes) → ViewersAgree
agree law ps net are viewer other w theirs window their_window at view there their_view same =
    law ps.mark ps.scene ps.routes net are.reached viewer.who other.who w theirs window their_window
    (running ps net are viewer w window at view) (running ps net are other theirs their_window there their_view) same

-- ---- a new viewer

pub starts : (mark : List ℕ) (stage : StageView) (who boot : ℕ) (ps : Peers) → ps.mark ≡ mark → ps.scene ≡ stage.scene → ps.routes ≡ stage.routes
    → viewer_before (record ps { mark = mark; scene = stage.scene; routes = stage.routes }) who boot ≡ viewer_before ps who boot
starts mark stage who boot ps k s r =
    ap (λ (l : List ℕ). viewer_before (record ps { mark = l; scene = stage.scene; routes = stage.routes }) who boot) (sym k)
    ∙ ap (λ (z : SceneView). viewer_before (record ps { scene = z; routes = stage.routes }) who boot) (sym s)
    ∙ ap (λ (z : List Route). viewer_before (record ps { routes = z }) who boot) (sym r)
