-- What an interpolator does at an event that sets no field.
use Rattle.std.proofs.Common.{◌≡◌, ℕ, ℤ, true, refl}
use Rattle.x3d_values.specs.declared.fields.Fields.{Fields}
use Rattle.x3d_values.specs.declared.node_type.NodeType.{NodeType}
use Rattle.x3d_values.specs.declared.node_type.NodeType.TheVariants.{ScalarInterpolator, PositionInterpolator, PositionInterpolator2D, CoordinateInterpolator}
use Rattle.x3d_values.specs.declared.value.Value.{Value}
use Rattle.react_core.specs.Reaction.{answer, interpolator, is_interpolator}

pub answer-interpolator : (t : NodeType) (fields : Fields) (input : ℕ) (value : Value) (time : ℤ) → is_interpolator t ≡ true → answer t fields input value time ≡ interpolator t fields input value
answer-interpolator ScalarInterpolator fields input value time e = refl
answer-interpolator PositionInterpolator fields input value time e = refl
answer-interpolator PositionInterpolator2D fields input value time e = refl
answer-interpolator CoordinateInterpolator fields input value time e = refl
answer-interpolator _ fields input value time e = cc e
