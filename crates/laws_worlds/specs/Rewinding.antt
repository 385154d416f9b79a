-- A viewer rewinds to a snapshot that was taken, its own or another viewer's.
use Rattle.std.specs.Prelude.{◌≡◌, ℕ, ◌<◌, ◌^◌, List, length, Some, Result, slice_get}
use Rattle.proto_flat.specs.declared.flat.Flat.{Flat}
use Rattle.scene_core.specs.declared.scene.Route.{Route}
use Rattle.scene_core.specs.Scene.{SceneView}
use Rattle.laws_worlds.specs.Nodes.{RunsAll}
use Rattle.cascade_core.specs.Course.{Scripted}
use Rattle.snapshot_core.specs.declared.fault.SnapFault.{SnapFault}
use Rattle.snapshot_core.specs.Shot.{shot}
use Rattle.share_law.specs.Calls.{IsRewind}
use Rattle.share_law.specs.Cascade.{cascade}
use Rattle.share_law.specs.Network.{Network}
use Rattle.share_law.specs.Reached.{Reached}
use Rattle.share_law.specs.Viewer.{Shot, ViewerState}
use Rattle.share_core.specs.Rewinds.{IsRewound}
use Rattle.share_core.specs.Viewer.{ViewerView, machine_of}
use Rattle.laws_worlds.specs.Worlds.{IsDocument}

-- whatever 1 to max_viewers viewers, their host and their network did in the scene of a document,
-- all of whose scripts run: rewinding a viewer of that scene to the bytes of a snapshot that was
-- taken (`IsRewound`, the clause of its call) is the network's step for that snapshot, so only its
-- boot or memory can refuse it. The snapshot counts its boot in 32 bits and the events that were
-- sent in 64.
abbrev pub TakenSnapshotsRewind : Type 0
TakenSnapshotsRewind =
    (flat : Flat) (scene : SceneView) (routes : List Route)
    (mark : List ℕ) (net : Network Scripted)
    → IsDocument flat scene routes → RunsAll scene → Reached (cascade mark scene routes) net
    → (s : ℕ) (from : Shot Scripted) → slice_get net.shots s ≡ Some from
    → length from.state.world.trace < 2 ^ 64 → from.boot < 2 ^ 32
    → (v : ViewerView) → v.scene ≡ scene → length v.mark ≡ 32
    → (boot : ℕ) (result : Result ℕ SnapFault) (new : ViewerState Scripted)
    → IsRewound v boot (shot v.mark from.boot scene from.state) result new
    → IsRewind (machine_of v) v.state from boot result new
