-- All lines that a world may have are fewer than 2^64.
use Rattle.std.proofs.Common.{◌≡◌, ◌+◌, ◌*◌, ◌≤◌, true, nat_le, List, [], ◌∷◌, length, map, refl, arith, length-append}
use Rattle.std.specs.List.{range_with_len}
use Rattle.std.proofs.lemmas.Bool.{leb-true}
use Rattle.std.proofs.lemmas.List.{length-map, length-take}
use Rattle.std.proofs.lemmas.List.FromFn.{length-range_with_len}
use Rattle.std.proofs.lemmas.List.Sums.{count_by-le-length, length-filter, sum_by-cons}
use Rattle.x3d_values.specs.Stamp.{StampedView}
use Rattle.x3d_values.specs.Tables.{rows}
use Rattle.x3d_values.specs.declared.node_type.NodeType.{NodeType}
use Rattle.x3d_values.specs.declared.node_type.NodeType.TheVariants.{Group}
use Rattle.scene_core.specs.Scene.{SceneView, shape_of, shapes_of}
use Rattle.scene_core.specs.Shape.{Shape, declared_entry, most_declared, numbered_fields, rows_of}
use Rattle.scene_core.specs.declared.row.DeclaredField.{DeclaredField}
use Rattle.scene_core.specs.declared.scene.Route.{Route}
use Rattle.scene_core.specs.declared.scene.SceneNode.{SceneNode}
use Rattle.cascade_world.specs.Access.{is_output}
use Rattle.laws_worlds.specs.Nodes.{RunsAll}
use Rattle.cascade_core.specs.Apply.{apply, opening, world_after}
use Rattle.cascade_core.specs.Course.{Scripted}
use Rattle.cascade_core.specs.Outputs.{output_fields, outputs_of, outputs_of_shape}
use Rattle.laws_worlds.specs.Traces.{TracesAreCounted}
use Rattle.laws_worlds.proofs.Sent.{opening_few, sends_few}

-- ---- outputs

rows_counted : (t : NodeType) → nat_le (length (rows t)) 65536 ≡ true
rows_counted Group = refl
rows_counted _ = refl

few_rows : (t : NodeType) → length (rows t) ≤ 65536
few_rows t = leb-true (length (rows t)) 65536 (rows_counted t)

-- a node has at most 65,536 fields
few_fields : (n : SceneNode) → length (rows_of (shape_of n)) ≤ 65536
few_fields n =
    let declared : List DeclaredField = numbered_fields n.node_type n.declared in
    omega (arith, few_rows n.node_type, length-append (rows n.node_type) (map declared_entry declared), length-map declared declared_entry, length-take (most_declared n.node_type) n.declared)

few_outputs : (s : Shape) → outputs_of_shape s ≤ length (rows_of s)
unfolding output_fields
few_outputs s =
    omega (arith, length-filter (is_output s) (range_with_len 0 (length (rows_of s))), count_by-le-length (is_output s) (range_with_len 0 (length (rows_of s))), length-range_with_len 0 (length (rows_of s)))

few_all : (nodes : List SceneNode) → outputs_of (map shape_of nodes) ≤ length nodes * 65536
few_all [] = omega arith
few_all (n ∷ nodes) =
    omega (arith, sum_by-cons outputs_of_shape (shape_of n) (map shape_of nodes), few_outputs (shape_of n), few_fields n, few_all nodes)

-- ---- the trace

grows : (scene : SceneView) (routes : List Route) → RunsAll scene → outputs_of (shapes_of scene) ≤ 4294967296 → (inputs : List StampedView) (w : Scripted)
    → length (world_after scene routes w inputs).world.trace ≤ length w.world.trace + length inputs * 4294967296
grows scene routes all few [] w = omega arith
grows scene routes all few (s ∷ inputs) w =
    omega (arith, grows scene routes all few inputs (apply scene routes w s), sends_few scene routes w s all, few)

-- as many lines for input 0 as for any other
pub counted : TracesAreCounted
counted scene routes inputs all few some =
    let outputs : outputs_of (shapes_of scene) ≤ 4294967296 = omega (arith, few_all scene.nodes, few) in
    omega (arith, grows scene routes all outputs inputs (opening scene routes), opening_few scene routes all, outputs, some)
