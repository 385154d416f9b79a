-- The results of a reader of a part.
use Rattle.std.specs.Prelude.{◌≡◌, ℕ, ◌++◌, List, Option, Some, None, Result, Ok, Err}
use Rattle.byte_codec.specs.Codec.{◌>>?◌}
use Rattle.snapshot_codec.specs.declared.fault.PartFault.{PartFault}
use Rattle.snapshot_codec.specs.declared.fault.PartFault.TheVariants.{NotCanonical, Memory}

-- there is nothing to read, or memory ran out
abbrev pub Fails : {Y : Type 0} → PartFault → Option Y → Type 0
Fails Memory read = Unit {0}
Fails NotCanonical read = read ≡ None

-- the call returned what is read there, seen by `view`, unless memory ran out
abbrev pub ReadsPart : {X Y : Type 0} → (X → Y) → Result X PartFault → Option Y → Type 0
ReadsPart view (Ok x) read = read ≡ Some (view x)
ReadsPart view (Err fault) read = Fails fault read

-- the items that were there before, followed by those that are read
abbrev pub behind : {A : Type 0} → List A → Option (List A × List ℕ) → Option (List A × List ℕ)
behind front read = read >>? λ x. Some (front ++ x.0, x.1)
