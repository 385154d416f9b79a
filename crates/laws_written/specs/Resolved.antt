-- The routes of a written scene, resolved again, are the same routes (ISO/IEC 19775-1, ROUTE).
use Rattle.std.specs.Prelude.{◌≡◌, ◌<◌, ◌≤◌, ◌^◌, ℕ, List, length, Some, Ok}
use Rattle.x3d_values.specs.declared.fields.Fields.{Fields}
use Rattle.proto_flat.specs.declared.flat.Flat.{Flat}
use Rattle.proto_meaning.specs.Flat.{flat}
use Rattle.route_core.specs.Ends.{node_of}
use Rattle.route_core.specs.Resolved.{resolved}
use Rattle.scene_core.specs.declared.scene.Route.{Route}
use Rattle.scene_core.specs.Building.{scene_of}
use Rattle.scene_core.specs.Scene.{SceneView, rows_at}
use Rattle.scene_text.specs.Statements.{scene_document}
use Rattle.laws_written.specs.Writable.{AreKeepable}

-- the other scene has each node of this one under the same number, with the same fields
pub record KeepsRows (s other : SceneView) : Type 0 where
  pub numbers : (n : ℕ) → n < length s.nodes → node_of other n ≡ Some n
  pub rows : (n : ℕ) → n < length s.nodes → rows_at other n ≡ rows_at s n

-- if the document that a document's scene is written as, with its routes, has a flat form, its
-- routes resolve to the same routes in each such scene
abbrev pub WrittenRoutesResolve : Type 0
WrittenRoutesResolve =
    (from : Flat) (scene other : SceneView) (routes : List Route) (state : List Fields)
    (again : Flat)
    → scene_of from ≡ Ok scene → length scene.nodes ≤ 2 ^ 64 → AreKeepable state
    → resolved from scene ≡ Ok routes
    → flat (scene_document scene routes state) ≡ Ok again → KeepsRows scene other
    → resolved again other ≡ Ok routes
