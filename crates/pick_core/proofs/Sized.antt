-- The sizes of the Boxes of a scene are values of its nodes.
use Rattle.std.proofs.Common.{◌≡◌, ℕ, true, Option, Some, None}
use Rattle.x3d_values.specs.declared.node_type.NodeType.{NodeType}
use Rattle.x3d_values.specs.declared.node_type.NodeType.TheVariants as type
use Rattle.x3d_values.specs.declared.value.Value.{Value}
use Rattle.x3d_values.specs.declared.value.Value.TheVariants.{SFVec3f}
use Rattle.x3d_values.specs.declared.vector.Vec3.{Vec3}
use Rattle.x3d_values.specs.Ranges.{coordinates_fit}
use Rattle.scene_core.specs.Scene.{SceneView, type_at, value_at}
use Rattle.pick_core.specs.Looks.{kind_as, kind_of, node_in, size_as, size_of, vector_in}
use Rattle.pick_core.specs.Within.{AreSized}
use Rattle.pick_core.specs.declared.look.Role.TheVariants as kind
use Rattle.pick_core.specs.declared.numbers.TheConstants.{GEOMETRY, SIZE}

vector_is : (o : Option Value) (size : Vec3) → vector_in o ≡ Some size → o ≡ Some (SFVec3f size)
vector_is (Some (SFVec3f v)) size is = cc
vector_is _ size is = absurd cc

-- where all of them are in range, so are the sizes
module _ (scene : SceneView) (in_range : (node field : ℕ) (v : Vec3) → value_at scene node field ≡ Some (SFVec3f v) → coordinates_fit v ≡ true) where
  of_type : (geometry : ℕ) (size : Vec3) (t : Option NodeType) → size_as scene geometry t ≡ Some size → coordinates_fit size ≡ true
  of_type geometry size (Some type.Box) is = in_range geometry SIZE size (vector_is (value_at scene geometry SIZE) size is)
  of_type geometry size _ is = absurd cc

  of_geometry : (size : Vec3) (geometry : Option ℕ) → size_of scene geometry ≡ Some size → coordinates_fit size ≡ true
  of_geometry size None is = absurd cc
  of_geometry size (Some geometry) is = of_type geometry size (type_at scene geometry) is

  same_size : (a b : Option Vec3) → kind.Shape a ≡ kind.Shape b → a ≡ b
  same_size a b is = cc

  of_kind : (node : ℕ) (size : Vec3) (t : Option NodeType) → kind_as scene node t ≡ kind.Shape (Some size) → coordinates_fit size ≡ true
  of_kind node size (Some type.Shape) is =
      let geometry : Option ℕ = node_in (value_at scene node GEOMETRY) in
      of_geometry size geometry (same_size (size_of scene geometry) (Some size) is)
  of_kind node size (Some type.Group) is = absurd cc
  of_kind node size (Some type.Transform) is = absurd cc
  of_kind node size (Some type.Switch) is = absurd cc
  of_kind node size _ is = absurd cc

  pub are_sized : AreSized scene
  unfolding kind_of
  are_sized node size is = of_kind node size (type_at scene node) is
