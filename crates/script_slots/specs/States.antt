-- Which lists of whole numbers are states of a script of each kind (our choice of kinds).
use Rattle.std.specs.Prelude.{◌^◌, ℤ, pos, negsuc, List, [], ◌∷◌, length, nat_le, nat_lt, if◌then◌else◌, Bool, true, false, ◌&&◌, Option, Some, None}
use Rattle.std.specs.List.{list_all}
use Rattle.x3d_values.specs.Ranges.{coordinate_fits}
use Rattle.x3d_values.specs.declared.script.Kind.{Kind}
use Rattle.x3d_values.specs.declared.script.Kind.TheVariants.{Counter, Gate, Adder, Batch, Mover, Meter}
use Rattle.script_slots.specs.Events.{truth_fits}
use Rattle.script_slots.specs.declared.fault.StateFault.{StateFault}
use Rattle.script_slots.specs.declared.fault.StateFault.TheVariants.{StateLength, StateRange}

-- a number of 32 bits
abbrev pub integer_fits : ℤ → Bool
integer_fits (pos n) = nat_lt n (2 ^ 31)
integer_fits (negsuc n) = nat_lt n (2 ^ 31)

-- a number from 0 to 2^31 - 1
abbrev pub pending_fits : ℤ → Bool
pending_fits (pos n) = nat_lt n (2 ^ 31)
pending_fits (negsuc n) = false

abbrev pub range_fault : Bool → Option StateFault
range_fault true = None
range_fault false = Some StateRange

abbrev pub counter_fault : List ℤ → Option StateFault
counter_fault (count ∷ step ∷ []) = range_fault (integer_fits count && integer_fits step)
counter_fault _ = Some StateLength

abbrev pub gate_fault : List ℤ → Option StateFault
gate_fault (truth ∷ []) = range_fault (truth_fits truth)
gate_fault _ = Some StateLength

abbrev pub adder_fault : List ℤ → Option StateFault
adder_fault (a ∷ b ∷ []) = range_fault (coordinate_fits a && coordinate_fits b)
adder_fault _ = Some StateLength

abbrev pub batch_fault : List ℤ → Option StateFault
batch_fault (pending ∷ []) = range_fault (pending_fits pending)
batch_fault _ = Some StateLength

abbrev pub place_fits : ℤ → ℤ → ℤ → Bool
place_fits x y z = coordinate_fits x && (coordinate_fits y && coordinate_fits z)

abbrev pub mover_fault : List ℤ → Option StateFault
mover_fault (x ∷ y ∷ z ∷ x' ∷ y' ∷ z' ∷ []) = range_fault (place_fits x y z && place_fits x' y' z')
mover_fault _ = Some StateLength

abbrev pub meter_fault : List ℤ → Option StateFault
meter_fault readings =
    if nat_le (length readings) 8 then range_fault (list_all coordinate_fits readings)
    else Some StateLength

-- why a list is not a state of a script of this kind: its length, or else a number out of range
abbrev pub state_fault : Kind → List ℤ → Option StateFault
state_fault Counter = counter_fault
state_fault Gate = gate_fault
state_fault Adder = adder_fault
state_fault Batch = batch_fault
state_fault Mover = mover_fault
state_fault Meter = meter_fault
