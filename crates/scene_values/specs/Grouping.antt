-- Numerals as the components of numbers, vectors and colours (ISO/IEC 19775-1, field types).
use Rattle.std.specs.Prelude.{ℕ, ℤ, pos, List, [], ◌∷◌, slice_index_or}
use Rattle.x3d_values.specs.declared.vector.Vec2.{Vec2}
use Rattle.x3d_values.specs.declared.vector.Vec3.{Vec3}
use Rattle.x3d_values.specs.declared.vector.Color.{Color}

-- ---- all numerals as one item

abbrev pub component : List ℤ → ℕ → ℤ
component run n = slice_index_or run n (pos 0)

abbrev pub pair : List ℤ → Vec2
pair run = record { x = component run 0; y = component run 1 }

abbrev pub vector : List ℤ → Vec3
vector run = record { x = component run 0; y = component run 1; z = component run 2 }

abbrev pub color : List ℤ → Color
color run = record { red = component run 0; green = component run 1; blue = component run 2 }

-- ---- grouped; numerals after the last whole group are ignored

abbrev pub pairs : List ℤ → List Vec2
pairs (x ∷ (y ∷ rest)) = record { x = x; y = y } ∷ pairs rest
pairs _ = []

abbrev pub vectors : List ℤ → List Vec3
vectors (x ∷ (y ∷ (z ∷ rest))) = record { x = x; y = y; z = z } ∷ vectors rest
vectors _ = []

abbrev pub colors : List ℤ → List Color
colors (red ∷ (green ∷ (blue ∷ rest))) =
    record { red = red; green = green; blue = blue } ∷ colors rest
colors _ = []
