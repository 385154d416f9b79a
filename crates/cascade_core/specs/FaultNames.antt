-- The names of faults, as they are printed.
use Rattle.std.specs.Prelude.{ℕ, List, codes}
use Rattle.cascade_core.specs.declared.fault.LoadFault.{LoadFault}
use Rattle.cascade_core.specs.declared.fault.LoadFault.TheVariants as load
use Rattle.cascade_core.specs.declared.fault.ApplyFault.{ApplyFault}
use Rattle.cascade_core.specs.declared.fault.ApplyFault.TheVariants as apply
use Rattle.cascade_core.specs.declared.fault.TextFault.{TextFault}
use Rattle.cascade_core.specs.declared.fault.TextFault.TheVariants as text
use Rattle.cascade_core.specs.declared.fault.StatesFault.{StatesFault}
use Rattle.cascade_core.specs.declared.fault.StatesFault.TheVariants as states
use Rattle.cascade_core.specs.declared.fault.PlaceFault.{PlaceFault}
use Rattle.cascade_core.specs.declared.fault.PlaceFault.TheVariants as place

abbrev pub load_fault_name : LoadFault → List ℕ
load_fault_name load.Memory = codes "Memory"

abbrev pub apply_fault_name : ApplyFault → List ℕ
apply_fault_name apply.Spoiled = codes "Spoiled"
apply_fault_name apply.NotNext = codes "NotNext"
apply_fault_name apply.TimeNotLater = codes "TimeNotLater"
apply_fault_name apply.Memory = codes "Memory"

abbrev pub text_fault_name : TextFault → List ℕ
text_fault_name text.Spoiled = codes "Spoiled"
text_fault_name text.Memory = codes "Memory"

abbrev pub states_fault_name : StatesFault → List ℕ
states_fault_name states.Spoiled = codes "Spoiled"
states_fault_name states.Memory = codes "Memory"

abbrev pub place_fault_name : PlaceFault → List ℕ
place_fault_name place.Spoiled = codes "Spoiled"
place_fault_name place.NoSuchScript = codes "NoSuchScript"
place_fault_name place.KindDiffers = codes "KindDiffers"
place_fault_name place.Memory = codes "Memory"
