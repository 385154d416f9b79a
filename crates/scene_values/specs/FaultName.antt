-- The names of faults.
use Rattle.std.specs.Prelude.{ℕ, List, codes}
use Rattle.scene_values.specs.declared.fault.ValueFault.{ValueFault}
use Rattle.scene_values.specs.declared.fault.ValueFault.TheVariants.{WrongType, ValueRange, RotationUnsupported, Memory}

-- the name of the variant
abbrev pub fault_name : ValueFault → List ℕ
fault_name WrongType = codes "WrongType"
fault_name ValueRange = codes "ValueRange"
fault_name RotationUnsupported = codes "RotationUnsupported"
fault_name Memory = codes "Memory"
