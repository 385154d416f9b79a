-- A viewer of a scene that was read from a text rewinds to a snapshot that was taken, or joins with
-- one that it gathered.
use Rattle.std.specs.Prelude.{◌≡◌, ℕ, ◌<◌, ◌^◌, List, length, Option, Some, Result, slice_get}
use Rattle.proto_flat.specs.declared.flat.Flat.{Flat}
use Rattle.scene_core.specs.declared.scene.Route.{Route}
use Rattle.scene_core.specs.Scene.{SceneView}
use Rattle.laws_worlds.specs.Nodes.{RunsAll}
use Rattle.cascade_core.specs.Course.{Scripted}
use Rattle.snapshot_core.specs.declared.fault.SnapFault.{SnapFault}
use Rattle.snapshot_core.specs.Shot.{shot}
use Rattle.share_law.specs.declared.fault.JoinFault.{JoinFault}
use Rattle.share_law.specs.Calls.{IsJoin, IsRewind}
use Rattle.share_law.specs.Cascade.{cascade}
use Rattle.share_law.specs.Network.{Network}
use Rattle.share_law.specs.Pieces.{Gathering, joined, whole_of}
use Rattle.share_law.specs.Reached.{Reached}
use Rattle.share_law.specs.Viewer.{Shot, ViewerState}
use Rattle.share_core.specs.Rewinds.{IsJoined, IsRewound}
use Rattle.share_core.specs.Viewer.{ViewerView, machine_of}
use Rattle.laws_worlds.specs.Opened.{IsOpened}

-- whatever 1 to max_viewers viewers, their host and their network did, if all scripts run:
-- rewinding a viewer of the scene to the bytes of a snapshot that was taken is the network's step
-- for that snapshot, so only its boot or memory can refuse it. The snapshot counts its boot in 32
-- bits and the events that were sent in 64.
abbrev pub TakenSnapshotsOfTextsRewind : Type 0
TakenSnapshotsOfTextsRewind =
    (text : List ℕ) (f : Flat) (scene : SceneView) (routes : List Route)
    (mark : List ℕ) (net : Network Scripted)
    → IsOpened text f scene routes → RunsAll scene → Reached (cascade mark scene routes) net
    → (s : ℕ) (from : Shot Scripted) → slice_get net.shots s ≡ Some from
    → length from.state.world.trace < 2 ^ 64 → from.boot < 2 ^ 32
    → (v : ViewerView) → v.scene ≡ scene → length v.mark ≡ 32
    → (boot : ℕ) (result : Result ℕ SnapFault) (new : ViewerState Scripted)
    → IsRewound v boot (shot v.mark from.boot scene from.state) result new
    → IsRewind (machine_of v) v.state from boot result new

-- Likewise: if a viewer of the scene gathered all bytes of a snapshot that was taken, its join
-- (`IsJoined`, the clause of its call) is the network's step for that snapshot.
abbrev pub TakenSnapshotsOfTextsJoin : Type 0
TakenSnapshotsOfTextsJoin =
    (text : List ℕ) (f : Flat) (scene : SceneView) (routes : List Route)
    (mark : List ℕ) (net : Network Scripted)
    → IsOpened text f scene routes → RunsAll scene → Reached (cascade mark scene routes) net
    → (s : ℕ) (from : Shot Scripted) → slice_get net.shots s ≡ Some from
    → length from.state.world.trace < 2 ^ 64 → from.boot < 2 ^ 32
    → (v : ViewerView) → v.scene ≡ scene → length v.mark ≡ 32
    → (g : Gathering) → whole_of v.gathering ≡ Some g
    → joined g.places ≡ shot v.mark from.boot scene from.state
    → (boot : ℕ) (result : Result ℕ JoinFault) (new : ViewerState Scripted)
    → (held : Option Gathering) → IsJoined v (whole_of v.gathering) boot result new held
    → IsJoin (machine_of v) v.state v.gathering from boot result new held
