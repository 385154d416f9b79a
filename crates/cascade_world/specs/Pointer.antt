-- The sensors that a pointer concerns (ISO/IEC 19775-1, pointing device sensor component; the rules
-- for more than one viewer are our choice).
use Rattle.std.specs.Prelude.{ℕ, Bool, false, List, [], ◌∷◌, map, Option, Some, None, slice_get}
use Rattle.std.specs.List.{filter}
use Rattle.std.specs.Option.{option_and_then, option_map_or}
use Rattle.x3d_values.specs.Pointing.{PointerView, RayView}
use Rattle.x3d_values.specs.declared.fields.Fields.{Fields}
use Rattle.x3d_values.specs.declared.vector.Vec3.{Vec3}
use Rattle.scene_core.specs.Scene.{SceneView, types_of}
use Rattle.pick_core.specs.Track.{track_of}
use Rattle.sensor_plane.specs.declared.drag.Drag.{Drag}
use Rattle.sensor_plane.specs.declared.pointing.PointingState.{PointingState}
use Rattle.sensor_plane.specs.Pointing.{drag_by, is_pressed_by}
use Rattle.cascade_world.specs.Nodes.{pointing_sensors_of}
use Rattle.cascade_world.specs.declared.aim.Concerned.{Concerned}
use Rattle.cascade_world.specs.declared.world.WorldData.{WorldData}

-- a viewer presses the sensor of that number
abbrev pub is_pressed : WorldData → ℕ → ℕ → Bool
is_pressed w who sensor =
    option_map_or (λ (state : PointingState). is_pressed_by state who) (slice_get w.pointing sensor)
    false

-- where a ray meets the plane of a drag, if there is a drag and the ray meets its plane
abbrev pub tracked_by : SceneView → List Fields → RayView → Option Drag → Option Vec3
tracked_by scene fields ray None = None
tracked_by scene fields ray (Some drag) = track_of scene fields drag.path drag.start ray

-- where a viewer's ray meets the plane in which the viewer drags the sensor of that number, if it
-- does
unfoldable pub tracked_at : SceneView → WorldData → PointerView → ℕ → Option Vec3
tracked_at scene w p sensor =
    tracked_by scene w.fields p.ray
    (option_and_then (λ (state : PointingState). drag_by state p.who)
    (slice_get w.pointing sensor))

-- a sensor that the viewer presses
abbrev pub tracking : SceneView → WorldData → PointerView → ℕ → Concerned
tracking scene w p sensor = record { sensor = sensor; tracked = tracked_at scene w p sensor }

-- a sensor that the viewer doesn't press
abbrev pub untracked : ℕ → Concerned
untracked sensor = record { sensor = sensor; tracked = None }

abbrev pub or_all : List Concerned → List Concerned → List Concerned
or_all [] all = all
or_all (sensor ∷ some) all = sensor ∷ some

abbrev pub pressed : SceneView → WorldData → PointerView → List Concerned
pressed scene w p =
    map (tracking scene w p) (filter (is_pressed w p.who) (pointing_sensors_of (types_of scene)))

-- the sensors that a viewer presses, each with where the viewer's ray meets the plane of a drag;
-- all sensors if the viewer presses none
unfoldable pub concerned : SceneView → WorldData → PointerView → List Concerned
concerned scene w p =
    or_all (pressed scene w p) (map untracked (pointing_sensors_of (types_of scene)))

-- ---- the pointer itself

-- whether the button of a viewer is down
abbrev pub is_down : WorldData → ℕ → Bool
is_down w who = option_map_or (λ down. down) (slice_get w.buttons who) false
