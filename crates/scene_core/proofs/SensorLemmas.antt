-- The sensors that are kept of each list are those in it.
use Rattle.std.proofs.Common.{◌≡◌, ℕ, List, [], refl, sym, ap, ◌∙◌}
use Rattle.std.specs.Prelude.{codes, Option, Some, None, slice_get}
use Rattle.std.specs.Option.{option_and_then, option_map, option_map_or}
use Rattle.std.proofs.lemmas.Option.{slice_get-map}
use Rattle.x3d_values.specs.declared.table.FieldRow.{FieldRow}
use Rattle.x3d_values.specs.Tables.{rows, row_named}
use Rattle.scene_core.specs.declared.scene.SceneNode.{SceneNode}
use Rattle.scene_core.specs.declared.sensor_lists.SensorLists.{SensorLists}
use Rattle.scene_core.specs.Places.{children_at, own_children}
use Rattle.scene_core.specs.Scene.{SceneView, children_in, children_of, nodes_in, type_at}
use Rattle.scene_core.specs.SensorLists.{kept_below, sensor_lists, sensors_among, sensors_among_children, sensors_below}

kind_at : (scene : SceneView) (n : ℕ) (o : Option SceneNode) → slice_get scene.nodes n ≡ o → type_at scene n ≡ option_map (λ (m : SceneNode). m.node_type) o
kind_at scene n o e = slice_get-map (λ (m : SceneNode). m.node_type) scene.nodes n ∙ ap (λ o. option_map (λ (m : SceneNode). m.node_type) o) e

-- a node's list `children` by the node itself
pub children-are : (scene : SceneView) (n : ℕ) → children_of scene n ≡ option_map_or own_children (slice_get scene.nodes n) []
children-are scene n = by (slice_get scene.nodes n) refl where
  at_row : (node : SceneNode) → slice_get scene.nodes n ≡ Some node → (r : Option FieldRow) → children_in scene n r ≡ children_at node r
  at_row node e None = refl
  at_row node e (Some row) = ap (λ o. nodes_in (option_and_then (λ (m : SceneNode). option_and_then (λ v. v) (slice_get m.values row.number)) o)) e

  by : (o : Option SceneNode) → slice_get scene.nodes n ≡ o → children_of scene n ≡ option_map_or own_children o []
  by None e = ap (λ o. children_in scene n (option_and_then (λ t. row_named 0 (codes "children") (rows t)) o)) (kind_at scene n None e)
  by (Some node) e =
      ap (λ o. children_in scene n (option_and_then (λ t. row_named 0 (codes "children") (rows t)) o)) (kind_at scene n (Some node) e)
      ∙ at_row node e (row_named 0 (codes "children") (rows node.node_type))

kept : (scene : SceneView) (owner : Option ℕ) → kept_below (sensor_lists scene.nodes scene.roots) owner ≡ sensors_below scene owner
kept scene None = refl
kept scene (Some n) =
    ap (λ o. option_map_or (λ (ns : List ℕ). ns) o []) (slice_get-map (sensors_among_children scene.nodes) scene.nodes n)
    ∙ (by (slice_get scene.nodes n) ∙ ap (sensors_among scene.nodes) (sym (children-are scene n))) where
      by : (o : Option SceneNode)
          → option_map_or (λ (ns : List ℕ). ns) (option_map (sensors_among_children scene.nodes) o) [] ≡ sensors_among scene.nodes (option_map_or own_children o [])
      by None = refl
      by (Some node) = refl

pub kept-are : (scene : SceneView) (lists : SensorLists) (owner : Option ℕ) (found : List ℕ) → lists ≡ sensor_lists scene.nodes scene.roots → found ≡ kept_below lists owner
    → found ≡ sensors_below scene owner
kept-are scene lists owner found are is = is ∙ (ap (λ l. kept_below l owner) are ∙ kept scene owner)
