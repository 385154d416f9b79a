-- The numbers of a PlaneSensor's fields belong to the fields' names.
use Rattle.std.specs.Prelude.{ℕ, List, codes}
use Rattle.x3d_values.specs.declared.node_type.NodeType.TheVariants.{PlaneSensor}
use Rattle.react_core.specs.Numbers.{IsNumbered}
use Rattle.sensor_plane.specs.declared.numbers.TheConstants.{AUTO_OFFSET, PLANE_ENABLED, MAX_POSITION, MIN_POSITION, OFFSET, IS_OVER, IS_ACTIVE, TRACK_POINT_CHANGED, TRANSLATION_CHANGED}

abbrev pub IsPlaneField : List ℕ → ℕ → Type 0
IsPlaneField name number = IsNumbered PlaneSensor name number

pub record PlaneNumbers : Type 0 where
  pub auto_offset : IsPlaneField (codes "autoOffset") AUTO_OFFSET
  pub enabled : IsPlaneField (codes "enabled") PLANE_ENABLED
  pub max_position : IsPlaneField (codes "maxPosition") MAX_POSITION
  pub min_position : IsPlaneField (codes "minPosition") MIN_POSITION
  pub offset : IsPlaneField (codes "offset") OFFSET
  pub is_over : IsPlaneField (codes "isOver") IS_OVER
  pub is_active : IsPlaneField (codes "isActive") IS_ACTIVE
  pub track_point : IsPlaneField (codes "trackPoint_changed") TRACK_POINT_CHANGED
  pub translation : IsPlaneField (codes "translation_changed") TRANSLATION_CHANGED
