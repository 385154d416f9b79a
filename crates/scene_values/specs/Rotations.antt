-- Which rotations are accepted: those that don't turn (our choice: whole numbers give no exact
-- sines).
use Rattle.std.specs.Prelude.{ℕ, ℤ, Bool, ◌||◌, ◌==◌, List, [], ◌∷◌, Result, Ok, Err, unsigned_abs, if◌then◌else◌}
use Rattle.classic_tree.specs.declared.tree.RawValue.{RawValue}
use Rattle.classic_tree.specs.declared.tree.RawValue.TheVariants.{Numbers}
use Rattle.scene_values.specs.declared.fault.ValueFault.{ValueFault}
use Rattle.scene_values.specs.declared.fault.ValueFault.TheVariants.{WrongType, RotationUnsupported}

-- an axis of three numerals and an angle, which is 0 unless any angle is allowed
abbrev pub rotation : List ℤ → Bool → Result Unit ValueFault
rotation (x ∷ (y ∷ (z ∷ (angle ∷ [])))) any_angle =
    if any_angle || unsigned_abs angle == 0 then Ok tt else Err RotationUnsupported
rotation _ any_angle = Err WrongType

-- like `rotation`, for a raw value; a list is never a rotation
abbrev pub checked_rotation : RawValue ℕ → Bool → Result Unit ValueFault
checked_rotation (Numbers run) any_angle = rotation run any_angle
checked_rotation _ any_angle = Err WrongType
