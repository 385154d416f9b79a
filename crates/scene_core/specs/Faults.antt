-- Faults of a scene, and steps that may fail.
use Rattle.std.specs.Prelude.{ℕ, List, [], ◌∷◌, ◌++◌, codes, Result, Ok, Err}
use Rattle.scene_core.specs.declared.fault.SceneFault.{SceneFault}
use Rattle.scene_core.specs.declared.fault.SceneFaultKind.{SceneFaultKind}
use Rattle.scene_core.specs.declared.fault.SceneFaultKind.TheVariants.{WrongType, ValueRange, RotationUnsupported, NotInitial, BadChild, TooDeep, TooMany, Memory}

-- the name of the variant
abbrev pub fault_name : SceneFaultKind → List ℕ
fault_name WrongType = codes "WrongType"
fault_name ValueRange = codes "ValueRange"
fault_name RotationUnsupported = codes "RotationUnsupported"
fault_name NotInitial = codes "NotInitial"
fault_name BadChild = codes "BadChild"
fault_name TooDeep = codes "TooDeep"
fault_name TooMany = codes "TooMany"
fault_name Memory = codes "Memory"

abbrev pub fault : SceneFaultKind → ℕ → SceneFault
fault kind line = record { kind = kind; line = line }

-- the fault if memory is refused
abbrev pub memory : SceneFault
memory = fault Memory 0

infixl 10 ◌>>=◌
abbrev pub ◌>>=◌ : {A B : Type 0} → Result A SceneFault → (A → Result B SceneFault)
    → Result B SceneFault
Ok a >>= f = f a
Err e >>= f = Err e

-- applies the step to each item in turn; returns the first fault
abbrev pub through : {A X : Type 0} → (A → X → Result X SceneFault) → List A → X
    → Result X SceneFault
through step [] made = Ok made
through step (item ∷ items) made = step item made >>= λ more. through step items more

-- appends an item, or returns the item's fault
abbrev pub with_item : {A : Type 0} → List A → Result A SceneFault → Result (List A) SceneFault
with_item made item = item >>= λ x. Ok (made ++ x ∷ [])
