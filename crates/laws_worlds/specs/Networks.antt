-- The worlds of a network have snapshots.
use Rattle.std.specs.Prelude.{◌≡◌, ℕ, ◌<◌, ◌^◌, List, length, Option, Some, slice_get}
use Rattle.x3d_values.specs.Stamp.{StampedView}
use Rattle.proto_flat.specs.declared.flat.Flat.{Flat}
use Rattle.scene_core.specs.declared.scene.Route.{Route}
use Rattle.scene_core.specs.Scene.{SceneView}
use Rattle.laws_worlds.specs.Nodes.{RunsAll}
use Rattle.cascade_core.specs.Course.{Scripted}
use Rattle.snapshot_core.specs.Loading.{HasSnapshot}
use Rattle.share_law.specs.Cascade.{cascade}
use Rattle.share_law.specs.Network.{Network}
use Rattle.share_law.specs.Reached.{Reached, IsRunning}
use Rattle.share_law.specs.Viewer.{Shot}
use Rattle.laws_worlds.specs.Worlds.{IsDocument}

-- whatever 1 to max_viewers viewers, their host and their network did in the scene of a document,
-- all of whose scripts run: each world that a viewer saved has a snapshot, which counts the events
-- that were sent in 64 bits
abbrev pub SavedHaveSnapshots : Type 0
SavedHaveSnapshots =
    (flat : Flat) (scene : SceneView) (routes : List Route)
    (mark : List ℕ) (net : Network Scripted)
    → IsDocument flat scene routes → RunsAll scene → Reached (cascade mark scene routes) net
    → (s : ℕ) (shot : Shot Scripted) → slice_get net.shots s ≡ Some shot
    → length shot.state.world.trace < 2 ^ 64 → HasSnapshot scene shot.state

-- so does the world of each viewer that runs
abbrev pub RunningHaveSnapshots : Type 0
RunningHaveSnapshots =
    (flat : Flat) (scene : SceneView) (routes : List Route)
    (mark : List ℕ) (net : Network Scripted)
    → IsDocument flat scene routes → RunsAll scene → Reached (cascade mark scene routes) net
    → (viewer : ℕ) (held : Scripted) (window : List (Option StampedView))
    → IsRunning net viewer held window
    → length held.world.trace < 2 ^ 64 → HasSnapshot scene held
