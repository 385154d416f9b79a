-- The snapshots of a network are those of worlds that load again.
use Rattle.std.proofs.Common.{◌≡◌, ℕ, ◌^◌, ◌<◌, List, length, Some, refl, sym, subst}
use Rattle.std.specs.Prelude.{Result, slice_get}
use Rattle.proto_flat.specs.declared.flat.Flat.{Flat}
use Rattle.scene_core.specs.declared.scene.Route.{Route}
use Rattle.scene_core.specs.Scene.{SceneView}
use Rattle.laws_worlds.specs.Nodes.{RunsAll}
use Rattle.cascade_core.specs.Course.{Scripted}
use Rattle.snapshot_core.specs.declared.fault.SnapFault.{SnapFault}
use Rattle.snapshot_core.specs.Shot.{shot}
use Rattle.snapshot_core.specs.Loading.{HasSnapshot}
use Rattle.share_law.specs.Calls.{IsRewind}
use Rattle.share_law.specs.Cascade.{cascade}
use Rattle.share_law.specs.Network.{Network}
use Rattle.share_law.specs.Reached.{Reached}
use Rattle.share_law.specs.Viewer.{Shot, ViewerState}
use Rattle.share_core.specs.Rewinds.{IsRewound}
use Rattle.share_core.specs.Viewer.{ViewerView, machine_of}
use Rattle.share_core.proofs.Rewinds.{rewind-step}
use Rattle.laws_worlds.specs.Worlds.{IsDocument}
use Rattle.laws_worlds.proofs.Saved.{saved_have}

pub taken_rewind : (flat : Flat) (scene : SceneView) (routes : List Route) (mark : List ℕ) (net : Network Scripted)
    → IsDocument flat scene routes → RunsAll scene → Reached (cascade mark scene routes) net
    → (s : ℕ) (from : Shot Scripted) → slice_get net.shots s ≡ Some from
    → length from.state.world.trace < 2 ^ 64 → from.boot < 2 ^ 32
    → (v : ViewerView) → v.scene ≡ scene → length v.mark ≡ 32
    → (boot : ℕ) (result : Result ℕ SnapFault) (new : ViewerState Scripted)
    → IsRewound v boot (shot v.mark from.boot scene from.state) result new
    → IsRewind (machine_of v) v.state from boot result new
taken_rewind flat scene routes mark net d run reached s from at few small v same long boot result new rewound =
    let has : HasSnapshot v.scene from.state =
    subst (λ (x : SceneView). HasSnapshot x from.state) (sym same) (saved_have flat scene routes mark net d run reached s from at few) in
    let its = subst (λ (x : SceneView). IsRewound v boot (shot v.mark from.boot x from.state) result new) (sym same) rewound in
    rewind-step v boot (shot v.mark from.boot v.scene from.state) result new long its from small has refl
