-- The real host and the real viewers of a shared world, and a network of share_law that has them.
use Rattle.std.specs.Prelude.{◌≡◌, ℕ, ◌<◌, ◌^◌, List, length, slice_get, slice_set, Some}
use Rattle.std.specs.Option.{option_map}
use Rattle.proto_flat.specs.declared.flat.Flat.{Flat}
use Rattle.scene_core.specs.declared.scene.Route.{Route}
use Rattle.scene_core.specs.Scene.{SceneView}
use Rattle.cascade_core.specs.Course.{Scripted}
use Rattle.share_law.specs.Cascade.{cascade}
use Rattle.share_law.specs.Machine.{Machine}
use Rattle.share_law.specs.Network.{Network, Seat}
use Rattle.share_law.specs.Parts.{part_of}
use Rattle.share_law.specs.Reached.{Reached}
use Rattle.share_law.specs.Viewer.{Shot}
use Rattle.share_core.specs.Host.{HostView}
use Rattle.share_core.specs.Viewer.{ViewerView}
use Rattle.laws_worlds.specs.Nodes.{RunsAll}
use Rattle.laws_worlds.specs.Opened.{IsOpened}

-- the text that all of them loaded, with its flat document, scene and routes; the mark of the
-- scene; the host; and the viewers, by their numbers
pub record Peers : Type 0 where
  pub text : List ℕ
  pub flat : Flat
  pub scene : SceneView
  pub routes : List Route
  pub mark : List ℕ
  pub host : HostView
  pub viewers : List ViewerView

-- the machine of the worlds that they may hold
abbrev pub machine_for : Peers → Machine Scripted
machine_for ps = cascade ps.mark ps.scene ps.routes

-- the same peers with another host
abbrev pub with_host : Peers → HostView → Peers
with_host ps host = record ps { host = host }

-- the same peers with another viewer of this viewer's number
abbrev pub with_viewer : Peers → ViewerView → Peers
with_viewer ps viewer = record ps { viewers = slice_set ps.viewers viewer.who viewer }

-- the real viewer that is in this seat
abbrev pub viewer_at : Peers → (who : ℕ) → Seat Scripted → ViewerView
viewer_at ps who seat =
    record {
      mark = ps.mark;
      who = who;
      scene = ps.scene;
      routes = ps.routes;
      state = seat.node;
      gathering = seat.gathering;
    }

-- The network was reached, and its host and viewers are these. All of them loaded the text, and
-- boxes were attached to its scripts: each script runs. The boots of snapshots are those of real
-- viewers, which have 32 bits, and their bytes are in a real list, which has fewer than 2^64.
pub record AreIn (ps : Peers) (net : Network Scripted) : Type 0 where
  pub opened : IsOpened ps.text ps.flat ps.scene ps.routes
  pub attached : RunsAll ps.scene
  pub reached : Reached (machine_for ps) net
  pub host : ps.host ≡ record { mark = ps.mark; part = part_of net.host }
  pub viewers : (who : ℕ) → slice_get ps.viewers who
      ≡ option_map (viewer_at ps who) (slice_get net.viewers who)
  pub boots : (s : ℕ) (shot : Shot Scripted) → slice_get net.shots s ≡ Some shot
      → shot.boot < 2 ^ 32
  pub lines : (s : ℕ) (shot : Shot Scripted) → slice_get net.shots s ≡ Some shot
      → length shot.state.world.trace < 2 ^ 64
