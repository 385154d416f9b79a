-- The limits and the other faults, by what was met.
use Rattle.std.proofs.Common.{◌≡◌, refl, List, [], ◌∷◌, Result, Err}
use Rattle.proto_flat.specs.Fault.{fault}
use Rattle.proto_flat.specs.declared.fault.ExpandFaultKind.TheVariants.{BadIs, TooLarge}
use Rattle.proto_flat.specs.declared.flat.Flat.{Flat}
use Rattle.proto_flat.specs.declared.fault.ExpandFault.{ExpandFault}
use Rattle.proto_meaning.specs.Limits.{Met, ANode, AField, AnItem, limited}

-- a fault behind what was met
abbrev wrong_behind : List Met → Result Flat ExpandFault
wrong_behind met = limited (record { met = met; comes = Err (fault BadIs 3) })

-- 8,388,608 items, and then a fault: the fault
pub at_the_limit : wrong_behind (ANode ∷ AField 5 8388607 ∷ AField 6 1 ∷ AnItem ∷ []) ≡ Err (fault BadIs 3)
at_the_limit = refl

-- one item more before the fault
pub over_the_limit : wrong_behind (ANode ∷ AField 5 8388607 ∷ AField 6 2 ∷ []) ≡ Err (fault TooLarge 0)
over_the_limit = refl

-- the 65,536th field of a node, and one more
pub last_field : wrong_behind (ANode ∷ AField 65535 0 ∷ []) ≡ Err (fault BadIs 3)
last_field = refl

pub field_too_many : wrong_behind (ANode ∷ AField 65536 0 ∷ []) ≡ Err (fault TooLarge 0)
field_too_many = refl
