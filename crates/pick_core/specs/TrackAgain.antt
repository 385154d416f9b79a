-- When a point that is taken inwards and outwards again is unchanged.
use Rattle.std.specs.Prelude.{◌≡◌, ℕ, ℤ, pos, negsuc, neg_ℤ, ◌+ℤ◌, ◌-ℤ◌, ◌*ℤ◌, ◌<ℤ◌, ◌≤ℤ◌, List, [], ◌∷◌, slice_get, Option, Some}
use Rattle.x3d_values.specs.Ranges.{max_coordinate}
use Rattle.x3d_values.specs.declared.fields.Fields.{Fields}
use Rattle.x3d_values.specs.declared.node_type.NodeType.{NodeType}
use Rattle.x3d_values.specs.declared.node_type.NodeType.TheVariants as type
use Rattle.x3d_values.specs.declared.vector.Vec3.{Vec3}
use Rattle.scene_core.specs.Scene.{SceneView, type_at}
use Rattle.pick_core.specs.Local.{back_along, quotient}
use Rattle.pick_core.specs.Looks.{motion_of}
use Rattle.pick_core.specs.Motion.{along_of}
use Rattle.pick_core.specs.Paths.{inside, inward, outward}

-- the absolute value is at most 10^15 millionths
pub record IsNear (z : ℤ) : Type 0 where
  pub low : neg_ℤ (pos max_coordinate) ≤ℤ z
  pub high : z ≤ℤ pos max_coordinate

-- how far a coordinate is from the centre of a Transform, times a million
abbrev pub away : ℤ → ℤ → ℤ → ℤ
away translation center at = (at -ℤ translation -ℤ center) *ℤ pos 1000000

-- the scale divides `away`; if the scale is 0, the coordinate is that of the centre
abbrev pub IsEven : ℤ → ℤ → ℤ → ℤ → Type 0
IsEven translation scale center at =
    quotient (away translation center at) scale *ℤ scale ≡ away translation center at

-- a coordinate, and the same coordinate inside a Transform, are within the limit
pub record IsInReach (translation scale center at : ℤ) : Type 0 where
  pub outside : IsNear at
  pub inside : IsNear (center +ℤ quotient (away translation center at) scale)

pub record Divides (translation scale center at : ℤ) : Type 0 where
  pub even : IsEven translation scale center at
  pub reach : IsInReach translation scale center at

-- on each axis
pub record DividesPoint (translation scale center at : Vec3) : Type 0 where
  pub x : Divides translation.x scale.x center.x at.x
  pub y : Divides translation.y scale.y center.y at.y
  pub z : Divides translation.z scale.z center.z at.z

abbrev pub DividesBy : Option NodeType → Option Fields → Vec3 → Type 0
DividesBy (Some type.Transform) own p =
    DividesPoint (motion_of own).translation (motion_of own).scale (motion_of own).center p
DividesBy _ own p = Unit {0}

-- the scale of each Transform among these nodes divides at the point that reaches it
unfoldable pub AllDivide : SceneView → List Fields → List ℕ → Vec3 → Type 0
AllDivide scene state [] p = Unit {0}
AllDivide scene state (node ∷ nodes) p =
    DividesBy (type_at scene node) (slice_get state node) p
    × AllDivide scene state nodes (inside scene state node p)

abbrev pub OutwardsAgain : Type 0
OutwardsAgain = (scene : SceneView) (state : List Fields) (nodes : List ℕ) (p : Vec3)
    → AllDivide scene state nodes p → outward scene state nodes (inward scene state nodes p) ≡ p

-- if a coordinate within reach, above the lower limit, is unchanged by a scale above 0 and back,
-- then the scale divides
abbrev pub ScalesDivide : Type 0
ScalesDivide = (translation scale center at : ℤ) → pos 0 <ℤ scale
    → neg_ℤ (pos max_coordinate) <ℤ at → IsInReach translation scale center at
    → along_of translation scale center (back_along translation scale center at) ≡ at
    → IsEven translation scale center at

-- a scale from -1 up to, but not including, 0 returns each coordinate within reach: rounding
-- inwards and rounding outwards go in opposite directions
abbrev pub TurnedScalesReturn : Type 0
TurnedScalesReturn = (translation scale center at : ℤ) → negsuc 999999 ≤ℤ scale → scale <ℤ pos 0
    → IsInReach translation scale center at
    → along_of translation scale center (back_along translation scale center at) ≡ at
