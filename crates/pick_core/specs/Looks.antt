-- What a ray sees of a node (ISO/IEC 19775-1, grouping, shape and geometry components).
use Rattle.std.specs.Prelude.{ℕ, ℤ, pos, negsuc, List, Option, Some, None}
use Rattle.std.specs.Option.{option_and_then}
use Rattle.x3d_values.specs.declared.fields.Fields.{Fields}
use Rattle.x3d_values.specs.declared.node_type.NodeType.{NodeType}
use Rattle.x3d_values.specs.declared.node_type.NodeType.TheVariants as type
use Rattle.x3d_values.specs.declared.value.Value.{Value}
use Rattle.x3d_values.specs.declared.value.Value.TheVariants.{SFInt32, SFNode, SFVec3f}
use Rattle.x3d_values.specs.declared.vector.Vec3.{Vec3}
use Rattle.x3d_values.specs.Kept.{field_value}
use Rattle.scene_core.specs.Scene.{SceneView, type_at, value_at, children_of}
use Rattle.pick_core.specs.declared.look.Role.{Role}
use Rattle.pick_core.specs.declared.look.Role.TheVariants as kind
use Rattle.pick_core.specs.declared.look.Motion.{Motion}
use Rattle.pick_core.specs.declared.numbers.TheConstants.{GEOMETRY, SIZE, CENTER, SCALE, TRANSLATION, WHICH_CHOICE}

-- -- the part of a node that the scene fixes

abbrev pub vector_in : Option Value → Option Vec3
vector_in (Some (SFVec3f v)) = Some v
vector_in _ = None

abbrev pub node_in : Option Value → Option ℕ
node_in (Some (SFNode node)) = node
node_in _ = None

abbrev pub size_as : SceneView → ℕ → Option NodeType → Option Vec3
size_as scene geometry (Some type.Box) = vector_in (value_at scene geometry SIZE)
size_as scene geometry _ = None

-- the size of a geometry, if it is a Box
abbrev pub size_of : SceneView → Option ℕ → Option Vec3
size_of scene None = None
size_of scene (Some geometry) = size_as scene geometry (type_at scene geometry)

abbrev pub kind_as : SceneView → ℕ → Option NodeType → Role
kind_as scene node (Some type.Group) = kind.Group
kind_as scene node (Some type.Transform) = kind.Transform
kind_as scene node (Some type.Switch) = kind.Switch
kind_as scene node (Some type.Shape) =
    kind.Shape (size_of scene (node_in (value_at scene node GEOMETRY)))
kind_as scene node _ = kind.Other

unfoldable pub kind_of : SceneView → ℕ → Role
kind_of scene node = kind_as scene node (type_at scene node)

-- the nodes in the list `children` of a node
unfoldable pub listed : SceneView → ℕ → List ℕ
listed scene node = children_of scene node

-- -- the part of a node that the state says

abbrev pub value_in : Option Fields → ℕ → Option Value
value_in own number = option_and_then (λ (fields : Fields). field_value fields number) own

abbrev pub vector_or : Vec3 → Option Value → Vec3
vector_or default (Some (SFVec3f v)) = v
vector_or default _ = default

-- a field that the state lacks moves nothing
unfoldable pub motion_of : Option Fields → Motion
motion_of own =
    record {
      translation =
          vector_or (record { x = pos 0; y = pos 0; z = pos 0 }) (value_in own TRANSLATION);
      scale = vector_or (record { x = pos 1000000; y = pos 1000000; z = pos 1000000 })
          (value_in own SCALE);
      center = vector_or (record { x = pos 0; y = pos 0; z = pos 0 }) (value_in own CENTER);
    }

abbrev pub choice_in : Option Value → ℤ
choice_in (Some (SFInt32 which)) = which
choice_in _ = negsuc 0

-- the position of the child that a Switch shows; a negative number shows no child
unfoldable pub choice_of : Option Fields → ℤ
choice_of own = choice_in (value_in own WHICH_CHOICE)
