-- The sensors that a hit concerns are all enabled pointing sensors, TouchSensors and PlaneSensors,
-- of the lowest list along its path that has one, each once, in the order of their numbers (ISO/IEC
-- 19775-1, pointing device sensor component).
use Rattle.std.specs.Prelude.{◌≡◌, ◌↔◌, ℕ, ◌==◌, ◌≤◌, ◌&&◌, ◌++◌, nat_lt, Bool, true, false, List, [], ◌∷◌, length, Option, Some, None, Ok, slice_get}
use Rattle.std.specs.List.{list_all, list_any}
use Rattle.std.specs.Option.{option_map_or}
use Rattle.x3d_values.specs.Ranges.{max_sensors}
use Rattle.x3d_values.specs.declared.fields.Fields.{Fields}
use Rattle.proto_flat.specs.declared.flat.Flat.{Flat}
use Rattle.scene_core.specs.Building.{scene_of}
use Rattle.scene_core.specs.Scene.{SceneView}
use Rattle.pick_core.specs.Sensors.{is_enabled, list_of, sensors_of, siblings_in}

-- the list contains the number
abbrev pub has : ℕ → List ℕ → Bool
has n ns = list_any (λ m. m == n) ns

-- each number is less than all after it
abbrev pub are_rising : List ℕ → Bool
are_rising [] = true
are_rising (n ∷ ns) = list_all (λ m. nat_lt n m) ns && are_rising ns

-- the lists along a path, each below the one before it: that of the roots (`None`), then the
-- children of each node that the path goes through; those of a Switch do not count
abbrev pub lists_along : SceneView → Option ℕ → List ℕ → List (List ℕ)
lists_along scene owner [] = []
lists_along scene owner (p ∷ ps) =
    siblings_in scene owner
    ∷ option_map_or (λ child. lists_along scene (Some child) ps)
    (slice_get (list_of scene owner) p) []

-- the number is that of an enabled pointing sensor in the list
abbrev pub is_listed : SceneView → List Fields → ℕ → List ℕ → Bool
is_listed scene state n list = has n list && is_enabled scene state n

-- n is the number of an enabled pointing sensor in one of the lists, and no list below that one has
-- any
pub record IsLowest (scene : SceneView) (state : List Fields) (lists : List (List ℕ)) (n : ℕ)
    : Type 0 where
  pub above : List (List ℕ)
  pub list : List ℕ
  pub below : List (List ℕ)
  pub stands : lists ≡ above ++ list ∷ below
  pub listed : is_listed scene state n list ≡ true
  pub lowest : (m : ℕ) → list_any (is_listed scene state m) below ≡ false

-- exactly the sensors that are lowest
abbrev pub SensorsAreLowest : Type 0
SensorsAreLowest =
    (scene : SceneView) (state : List Fields) (path : List ℕ) (n : ℕ)
    → (has n (sensors_of scene state path) ≡ true)
    ↔ IsLowest scene state (lists_along scene None path) n

-- in the order of their numbers, so each once
abbrev pub SensorsRise : Type 0
SensorsRise =
    (scene : SceneView) (state : List Fields) (path : List ℕ)
    → are_rising (sensors_of scene state path) ≡ true

-- at most as many as a list of a document's scene can have
abbrev pub SensorsAreFew : Type 0
SensorsAreFew =
    (flat : Flat) (scene : SceneView) (state : List Fields) (path : List ℕ)
    → scene_of flat ≡ Ok scene → length (sensors_of scene state path) ≤ max_sensors
