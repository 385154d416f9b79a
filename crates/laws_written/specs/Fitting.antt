-- The states that a scene may have: each value is in the range of its field (ISO/IEC 19775-1, field
-- semantics; the ranges are our choice).
use Rattle.std.specs.Prelude.{Bool, true, false, ◌&&◌, List, [], ◌∷◌}
use Rattle.x3d_values.specs.declared.fields.Fields.{Fields}
use Rattle.scene_core.specs.Shape.{Shape}
use Rattle.laws_worlds.specs.Ranges.{fields_fit}

-- for each node, what it keeps: a value of the field's type, in the range of that type, for each
-- field that is kept, and none for the others
abbrev pub state_fits : List Shape → List Fields → Bool
state_fits [] [] = true
state_fits [] (f ∷ fields) = false
state_fits (s ∷ shapes) [] = false
state_fits (s ∷ shapes) (f ∷ fields) =
    fields_fit s.node_type s.declared f && state_fits shapes fields
