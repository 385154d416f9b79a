-- What the ends of a document's route refer to in its scene (ISO/IEC 19775-1, ROUTE).
use Rattle.std.specs.Prelude.{◌^◌, ◌<◌, ℕ, Bool, List, Option, Some, None, Result, Ok, Err, map, length, nat_lt, if◌then◌else◌}
use Rattle.std.specs.Option.{option_and_then}
use denote.Enum.Bare.{sameb}
use Rattle.x3d_values.specs.contracts.field_type.FieldType as types
use Rattle.x3d_values.specs.declared.field_type.Access.{Access}
use Rattle.x3d_values.specs.declared.table.FieldRow.{FieldRow}
use Rattle.x3d_values.specs.Access.{receives, sends, holds_nodes}
use Rattle.proto_flat.specs.declared.flat.FlatEnd.{FlatEnd}
use Rattle.proto_flat.specs.declared.flat.FlatEnd.TheVariants.{At, NoNode, NoField, WrongWay}
use Rattle.proto_flat.specs.declared.flat.FlatRoute.{FlatRoute}
use Rattle.scene_core.specs.Scene.{SceneView, shapes_of, rows_at, number_of}
use Rattle.scene_core.specs.Shape.{rows_of}
use Rattle.scene_core.specs.declared.scene.End.{End}
use Rattle.scene_core.specs.declared.scene.Route.{Route}
use Rattle.route_core.specs.Names.{source_field, target_field}
use Rattle.route_core.specs.Outputs.{IsField}
use Rattle.route_core.specs.declared.ends.SceneField.{SceneField}
use Rattle.route_core.specs.declared.fault.RouteFaultKind.{RouteFaultKind}
use Rattle.route_core.specs.declared.fault.RouteFaultKind.TheVariants.{NoSuchNode, NoSuchField, NotOutput, NotInput, TypesDiffer, NodeEvent}

-- the number in the scene of a node of the document, if the scene has the node
abbrev pub node_of : SceneView → ℕ → Option ℕ
node_of scene node =
    option_and_then (λ n. if nat_lt n (length scene.nodes) then Some n else None)
    (number_of scene node)

abbrev pub field_at : ℕ → FieldRow → SceneField
field_at node row =
    record { end = record { node = node; field = row.number }; field_type = row.field_type }

-- the field, if its access allows the use; otherwise `fault`
abbrev pub usable : (Access → Bool) → RouteFaultKind → ℕ → Option FieldRow
    → Result SceneField RouteFaultKind
usable allowed fault node None = Err NoSuchField
usable allowed fault node (Some row) =
    if allowed row.access then Ok (field_at node row) else Err fault

abbrev pub output_named : SceneView → List ℕ → Option ℕ → Result SceneField RouteFaultKind
output_named scene name None = Err NoSuchNode
output_named scene name (Some n) = usable sends NotOutput n (source_field (rows_at scene n) name)

abbrev pub input_named : SceneView → List ℕ → Option ℕ → Result SceneField RouteFaultKind
input_named scene name None = Err NoSuchNode
input_named scene name (Some n) = usable receives NotInput n (target_field (rows_at scene n) name)

-- the output that a source names
abbrev pub source_of : SceneView → FlatEnd → Result SceneField RouteFaultKind
source_of scene (At node name) = output_named scene name (node_of scene node)
source_of scene NoNode = Err NoSuchNode
source_of scene NoField = Err NoSuchField
source_of scene WrongWay = Err NotOutput

-- the input that a destination names
abbrev pub target_of : SceneView → FlatEnd → Result SceneField RouteFaultKind
target_of scene (At node name) = input_named scene name (node_of scene node)
target_of scene NoNode = Err NoSuchNode
target_of scene NoField = Err NoSuchField
target_of scene WrongWay = Err NotInput

-- a route joins fields of equal types that hold no nodes
abbrev pub joined : SceneField → SceneField → Result Route RouteFaultKind
joined source target =
    if sameb types.the_type source.field_type target.field_type
    then (if holds_nodes source.field_type
    then Err NodeEvent
    else Ok (record { source = source.end; target = target.end }))
    else Err TypesDiffer

-- the source's fault, the target's, or a fault of both together
abbrev pub joined_ends : Result SceneField RouteFaultKind → Result SceneField RouteFaultKind
    → Result Route RouteFaultKind
joined_ends (Err fault) target = Err fault
joined_ends (Ok source) (Err fault) = Err fault
joined_ends (Ok source) (Ok target) = joined source target

abbrev pub route_of : SceneView → FlatRoute → Result Route RouteFaultKind
route_of scene r = joined_ends (source_of scene r.source) (target_of scene r.target)

-- the number of fields of each node of the scene
abbrev pub field_counts : SceneView → List ℕ
field_counts scene = map (λ s. length (rows_of s)) (shapes_of scene)

-- the end is a field of a node of the scene
pub record IsKnown (scene : SceneView) (e : End) : Type 0 where
  pub numbered : e.node < 2 ^ 32
  pub field : IsField (field_counts scene) e
