-- Answers, nodes, packets and snapshots of the law's network, and the real ones that match them.
use Rattle.std.specs.Prelude.{◌≡◌, ℕ, List, map, slice_get, Ok}
use Rattle.std.specs.Option.{option_map}
use Rattle.scene_core.specs.declared.scene.Route.{Route}
use Rattle.scene_core.specs.Scene.{SceneView}
use Rattle.cascade_core.specs.Course.{Scripted}
use Rattle.share_wire.specs.Decoding.{decoded}
use Rattle.snapshot_core.specs.Shot.{shot}
use Rattle.share_law.specs.Parts.{part_of}
use Rattle.share_law.specs.Network as law
use Rattle.share_law.specs.Network.{Network, Seat}
use Rattle.share_law.specs.Viewer as law_viewer
use Rattle.share_core.specs.Viewer.{ViewerView}
use Rattle.share_rehearsal.specs.declared.answer.Answer.{Answer}
use Rattle.share_rehearsal.specs.declared.answer.Answer.TheVariants.{Clocked, HostTook, ViewerTook}
use Rattle.share_rehearsal.specs.declared.answer.Answer.TheVariants.{Offered, Sent, Saved, Rewound}
use Rattle.share_rehearsal.specs.declared.answer.Answer.TheVariants.{Dropped, Collected, Joined}
use Rattle.share_rehearsal.specs.declared.answer.Answer.TheVariants.{Forgot, NoSuch}
use Rattle.share_rehearsal.specs.declared.nodes.Shot.{Shot}
use Rattle.share_rehearsal.specs.Calls.{Seen, message}

-- the network's answer
abbrev pub law_answer : Answer → law.Answer
law_answer (Clocked r) = law.Clocked r
law_answer (HostTook r) = law.HostTook r
law_answer (ViewerTook r) = law.ViewerTook r
law_answer (Offered r) = law.Offered r
law_answer (Sent r) = law.Sent r
law_answer (Saved r) = law.Saved r
law_answer (Rewound r) = law.Rewound r
law_answer (Dropped r) = law.Dropped r
law_answer (Collected r) = law.Collected r
law_answer (Joined r) = law.Joined r
law_answer Forgot = law.Forgot
law_answer NoSuch = law.NoSuch

-- the real viewer that matches a seat with this number
abbrev pub viewer_at : (mark : List ℕ) → SceneView → List Route → (v : ℕ) → Seat Scripted
    → ViewerView
viewer_at mark scene routes v x =
    record {
      mark = mark;
      who = v;
      scene = scene;
      routes = routes;
      state = x.node;
      gathering = x.gathering;
    }

-- the real snapshot that matches one of the network
abbrev pub shot_at : (mark : List ℕ) → SceneView → law_viewer.Shot Scripted → Shot
shot_at mark scene x =
    record { viewer = x.viewer; bytes = shot mark x.boot scene x.state }

-- the real nodes, packets and snapshots match those of a network; of the list of the network's
-- host, the real host holds the part from the floor on
pub record StandFor (mark : List ℕ) (scene : SceneView) (routes : List Route) (s : Seen)
    (net : Network Scripted) : Type 0 where
  pub host : s.host ≡ record { mark = mark; part = part_of net.host }
  pub viewers : (v : ℕ) → slice_get s.viewers v
      ≡ option_map (viewer_at mark scene routes v) (slice_get net.viewers v)
  pub packets : map decoded s.packets ≡ map (λ body. Ok (message mark body)) net.sent
  pub shots : s.shots ≡ map (shot_at mark scene) net.shots
