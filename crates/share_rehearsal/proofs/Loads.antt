-- Snapshots of a run can be loaded.
use Rattle.std.proofs.Common.{◌≡◌, ℕ, ◌^◌, ◌<◌, List, length}
use Rattle.std.specs.Prelude.{slice_get, Some}
use Rattle.scene_core.specs.declared.scene.Route.{Route}
use Rattle.scene_core.specs.Scene.{SceneView}
use Rattle.cascade_core.specs.Course.{Scripted}
use Rattle.snapshot_core.specs.Loading.{HasSnapshot}
use Rattle.share_law.specs.Cascade.{cascade}
use Rattle.share_law.specs.Network.{Network}
use Rattle.share_law.specs.Reached.{Reached}
use Rattle.share_law.specs.Viewer.{Shot}

-- each snapshot of the run with fewer than 2^64 lines can be loaded, whatever happened before
abbrev pub ShotsLoad : (mark : List ℕ) → SceneView → List Route → Type 0
ShotsLoad mark scene routes =
    (net : Network Scripted) → Reached (cascade mark scene routes) net
    → (s : ℕ) (taken : Shot Scripted) → slice_get net.shots s ≡ Some taken → length taken.state.world.trace < 2 ^ 64 → HasSnapshot scene taken.state
