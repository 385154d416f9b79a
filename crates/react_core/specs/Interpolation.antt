-- Interpolation between the values of keys (ISO/IEC 19775-1, interpolation; the rounding is our
-- choice).
use Rattle.std.specs.Prelude.{ℕ, ◌+◌, ◌-◌, ◌*◌, ◌/◌, ◌%◌, ℤ, pos, ◌+ℤ◌, ◌-ℤ◌, ◌*ℤ◌, int_le, unsigned_abs, Bool, not, ◌&&◌, ◌==◌, List, length, map, slice_get, slice_range, slice_index_or, Option, Some, None, if◌then◌else◌}
use Rattle.std.specs.Int.{int_div_euclid}
use Rattle.std.specs.List.{zip}
use Rattle.std.specs.Option.{option_map, option_and_then}
use Rattle.x3d_values.specs.declared.node_type.NodeType.{NodeType}
use Rattle.x3d_values.specs.declared.node_type.NodeType.TheVariants.{ScalarInterpolator, PositionInterpolator, PositionInterpolator2D, CoordinateInterpolator}
use Rattle.x3d_values.specs.declared.value.Value.{Value}
use Rattle.x3d_values.specs.declared.value.Value.TheVariants.{SFFloat, SFVec2f, SFVec3f, MFVec3f}
use Rattle.x3d_values.specs.declared.vector.Vec2.{Vec2}
use Rattle.x3d_values.specs.declared.vector.Vec3.{Vec3}
use Rattle.react_core.specs.declared.place.Between.{Between}
use Rattle.react_core.specs.Keys.{have_steps, reached}
use Rattle.react_core.specs.Stored.{numbers_of, points_of, vectors_of}

-- ---- part of the way between two values

-- the number at `part / whole` of the way from one number to another, rounded down
unfoldable pub part_way : ℕ → ℕ → ℤ → ℤ → ℤ
part_way part whole from to = from +ℤ int_div_euclid ((to -ℤ from) *ℤ pos part) (pos whole)

abbrev pub number_way : Between → ℤ → ℤ → ℤ
number_way place from to = part_way place.part place.whole from to

-- each component by itself
abbrev pub point_way : Between → Vec2 → Vec2 → Vec2
point_way place from to =
    record { x = number_way place from.x to.x; y = number_way place from.y to.y }

abbrev pub vector_way : Between → Vec3 → Vec3 → Vec3
vector_way place from to =
    record {
      x = number_way place from.x to.x;
      y = number_way place from.y to.y;
      z = number_way place from.z to.z;
    }

-- ---- where a fraction lies

-- exactly at an item
abbrev pub at_item : ℕ → Between
at_item item = record { from = item; to = item; part = 0; whole = 1 }

-- between an item and the next one, at the part of the way that the fraction has between their keys
abbrev pub after_item : ℕ → ℤ → ℤ → ℤ → Between
after_item item key next fraction =
    record {
      from = item;
      to = item + 1;
      part = unsigned_abs (fraction -ℤ key);
      whole = unsigned_abs (next -ℤ key);
    }

abbrev pub key_at : List ℤ → ℕ → ℤ
key_at keys item = slice_index_or keys item (pos 0)

-- the index of the last key that isn't above the fraction
abbrev pub last_reached : List ℤ → ℤ → ℕ
last_reached keys fraction = reached keys fraction - 1

-- at the first item if the fraction isn't above the first key, at the last item if it isn't below
-- the last key, or else after the last key that isn't above the fraction
abbrev pub place_among : List ℤ → ℤ → Between
place_among keys fraction =
    if int_le fraction (key_at keys 0) then at_item 0
    else (if int_le (key_at keys (length keys - 1)) fraction then at_item (length keys - 1)
    else after_item (last_reached keys fraction)
    (key_at keys (last_reached keys fraction))
    (key_at keys (last_reached keys fraction + 1))
    fraction)

-- none if there are no keys, or if a key is below the previous one
unfoldable pub place_of : List ℤ → ℤ → Option Between
place_of keys fraction = if have_steps keys then Some (place_among keys fraction) else None

-- ---- one value for each key

abbrev pub mixed : {X : Type 0} → (Between → X → X → X) → List X → Between → Option X
mixed way values place =
    option_and_then
    (λ from. option_map (λ to. way place from to) (slice_get values place.to))
    (slice_get values place.from)

unfoldable pub between : {X : Type 0} → (Between → X → X → X) → List ℤ → List X → ℤ → Option X
between way keys values fraction =
    if length values == length keys
    then option_and_then (mixed way values) (place_of keys fraction) else None

abbrev pub number_between : List ℤ → List ℤ → ℤ → Option ℤ
number_between keys values fraction = between number_way keys values fraction

abbrev pub point_between : List ℤ → List Vec2 → ℤ → Option Vec2
point_between keys values fraction = between point_way keys values fraction

abbrev pub vector_between : List ℤ → List Vec3 → ℤ → Option Vec3
vector_between keys values fraction = between vector_way keys values fraction

-- ---- the same number of values for each key

-- the vectors of an item, if each item has `many` vectors
abbrev pub group : List Vec3 → ℕ → ℕ → List Vec3
group values many item = slice_range values (item * many) (item * many + many)

abbrev pub vectors_way : Between → List Vec3 → List Vec3 → List Vec3
vectors_way place from to = map (λ pair. vector_way place pair.0 pair.1) (zip from to)

abbrev pub groups_way : List Vec3 → ℕ → Between → List Vec3
groups_way values many place =
    vectors_way place (group values many place.from) (group values many place.to)

-- each key has the same number of vectors, at least one
abbrev pub are_grouped : List ℤ → List Vec3 → Bool
are_grouped keys values = not (length values == 0) && (length values % length keys == 0)

unfoldable pub vectors_between : List ℤ → List Vec3 → ℤ → Option (List Vec3)
vectors_between keys values fraction =
    if are_grouped keys values
    then option_map (groups_way values (length values / length keys)) (place_of keys fraction)
    else None

-- ---- interpolators

-- the value that an interpolator with these keys and values sends for a fraction
abbrev pub interpolated : NodeType → List ℤ → Value → ℤ → Option Value
interpolated ScalarInterpolator keys values fraction =
    option_map SFFloat
    (option_and_then (λ numbers. number_between keys numbers fraction) (numbers_of values))
interpolated PositionInterpolator keys values fraction =
    option_map SFVec3f
    (option_and_then (λ vectors. vector_between keys vectors fraction) (vectors_of values))
interpolated PositionInterpolator2D keys values fraction =
    option_map SFVec2f
    (option_and_then (λ points. point_between keys points fraction) (points_of values))
interpolated CoordinateInterpolator keys values fraction =
    option_map MFVec3f
    (option_and_then (λ vectors. vectors_between keys vectors fraction) (vectors_of values))
interpolated _ keys values fraction = None
