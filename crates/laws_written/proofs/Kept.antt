-- The scene of what is written has each node of the scene under its number, with its fields.
use Rattle.std.proofs.Common.{◌≡◌, ℕ, ◌<◌, ◌≤◌, Bool, List, ◌++◌, length, nat_lt, Option, Some, None, if◌then◌else◌, ap, ◌∙◌, arith}
use Rattle.std.specs.Option.{option_and_then}
use Rattle.std.proofs.lemmas.Bool.{lt-ltb}
use Rattle.std.proofs.lemmas.List.{length-append, length-map}
use Rattle.x3d_values.specs.declared.fields.Fields.{Fields}
use Rattle.x3d_values.specs.declared.node_type.NodeType.{NodeType}
use Rattle.route_core.specs.Ends.{node_of}
use Rattle.scene_core.specs.declared.scene.Route.{Route}
use Rattle.scene_core.specs.declared.scene.SceneNode.{SceneNode}
use Rattle.scene_core.specs.Scene.{SceneView, types_of}
use Rattle.laws_written.specs.Again.{IsWrittenOf, switch_type}
use Rattle.laws_written.specs.Resolved.{KeepsRows}

abbrev type_of_node : SceneNode → NodeType
type_of_node n = n.node_type

module _ (s : SceneView) (routes : List Route) (state : List Fields) (next : SceneView) (w : IsWrittenOf s routes state next) where
  many : length s.nodes ≤ length next.nodes
  many =
      let a = length-map next.nodes type_of_node in
      let b = length-map s.nodes type_of_node in
      let c : length (types_of next) ≡ length (types_of s ++ switch_type s.helpers) = ap (λ (l : List NodeType). length l) w.types in
      let d = length-append (types_of s) (switch_type s.helpers) in
      omega (arith, a, b, c, d)

  numbered : (n : ℕ) → n < length s.nodes → node_of next n ≡ Some n
  numbered n l =
      let within : n < length next.nodes = omega (arith, l, many) in
      ap (λ (o : Option ℕ). option_and_then (λ (m : ℕ). if nat_lt m (length next.nodes) then Some m else None) o) (w.numbers n within)
      ∙ ap (λ (b : Bool). if b then Some n else None) (lt-ltb n (length next.nodes) within)

  pub keeps_rows : KeepsRows s next
  keeps_rows = record { numbers = numbered; rows = w.rows }
