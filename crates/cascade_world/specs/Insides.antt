-- Where a pointer is inside sensors (ISO/IEC 19775-1, pointing device sensor component; the rules
-- for more than one viewer are our choice).
use Rattle.std.specs.Prelude.{ℕ, ◌==◌, List, [], ◌∷◌, map, take, Option, Some, None, if◌then◌else◌}
use Rattle.std.specs.Option.{option_and_then, option_map}
use Rattle.x3d_values.specs.Pointing.{RayView}
use Rattle.x3d_values.specs.declared.fields.Fields.{Fields}
use Rattle.x3d_values.specs.declared.vector.Vec3.{Vec3}
use Rattle.scene_core.specs.Scene.{SceneView}
use Rattle.pick_core.specs.Boxes.{boxes}
use Rattle.pick_core.specs.Local.{local_of}
use Rattle.pick_core.specs.Picked.{picked}
use Rattle.pick_core.specs.Sensors.{sensors_of}
use Rattle.pick_core.specs.declared.hit.Hit.{Hit}
use Rattle.pick_core.specs.Paths.{depth_along}
use Rattle.sensor_plane.specs.declared.pointer.Contact.{Contact}
use Rattle.sensor_plane.specs.Paths.{list_path}
use Rattle.cascade_world.specs.declared.aim.Inside.{Inside}
use Rattle.cascade_world.specs.declared.aim.SensorsHit.{SensorsHit}

-- the path of a hit, if a ray hits a box, and the sensors that the ray is inside of
pub record Insides : Type 0 where
  pub path : Option (List ℕ)
  pub sensors : List Inside

-- as the code holds them
abbrev pub seen : SensorsHit → Insides
seen hit = record { path = hit.path; sensors = hit.sensors.items }

-- a sensor of a hit: the hit's place in its coordinates, and the number of positions of the hit's
-- path that lead to the list that holds the sensor
abbrev pub inside_by : SceneView → List Fields → RayView → Hit → ℕ → Inside
inside_by scene state ray hit sensor = record {
  sensor = sensor;
  point = local_of scene state hit ray sensor;
  depth = depth_along scene sensor None hit.path;
}

-- the path of a hit, and its sensors
abbrev pub inside_of : SceneView → List Fields → RayView → Option Hit → Insides
inside_of scene state ray None = record { path = None; sensors = [] }
inside_of scene state ray (Some hit) = record {
  path = Some hit.path;
  sensors = map (inside_by scene state ray hit) (sensors_of scene state hit.path);
}

-- the sensors that a ray is inside of, by the box that it hits first in a state, and the hit's
-- place in each
unfoldable pub insides : SceneView → List Fields → RayView → Insides
insides scene state ray = inside_of scene state ray (picked ray (boxes scene state))

-- the entry of a sensor, if the pointer is inside it
unfoldable pub inside_at : List Inside → ℕ → Option Inside
inside_at [] sensor = None
inside_at (i ∷ is) sensor = if i.sensor == sensor then Some i else inside_at is sensor

-- the pointer's place in the sensor
abbrev pub place_in : Insides → ℕ → Option Vec3
place_in is sensor = option_map (λ (i : Inside). i.point) (inside_at is.sensors sensor)

-- that place and the path to the list that holds the sensor, if the path can be kept
abbrev pub contact_by : List ℕ → Inside → ℕ → Option Contact
contact_by path i depth =
    option_map (λ (way : List ℕ). record { point = i.point; path = way })
    (list_path (take depth path))

abbrev pub contact_of : Option (List ℕ) → Inside → Option Contact
contact_of path i =
    option_and_then (λ (ps : List ℕ). option_and_then (contact_by ps i) i.depth) path

abbrev pub contact_in : Insides → ℕ → Option Contact
contact_in is sensor =
    option_and_then (contact_of is.path) (inside_at is.sensors sensor)
