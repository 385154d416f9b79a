-- What the limits leave of a flat form, and of a fault.
use Rattle.std.proofs.Common.{◌≡◌, Bool, true, false, if◌then◌else◌, Result, Ok, Err, ap}
use Rattle.proto_flat.specs.Fault.{fault}
use Rattle.proto_flat.specs.declared.fault.ExpandFault.{ExpandFault}
use Rattle.proto_flat.specs.declared.fault.ExpandFaultKind.TheVariants.{TooLarge}
use Rattle.proto_flat.specs.declared.flat.Flat.{Flat}

abbrev got : Flat → Result Flat ExpandFault → Flat
got g (Ok f) = f
got g (Err e) = g

-- within the limits, and with few routes
pub limited_is : (b c : Bool) (g f : Flat) → (if b then (if c then Err (fault TooLarge 0) else Ok g) else Err (fault TooLarge 0)) ≡ Ok f → g ≡ f
limited_is true true g f e = absurd cc
limited_is true false g f e = ap (got g) e
limited_is false c g f e = absurd cc

pub refused : (b : Bool) (e : ExpandFault) (f : Flat) → (if b then Err e else Err (fault TooLarge 0)) ≡ Ok f → ⊥
refused true e f k = absurd cc
refused false e f k = absurd cc
