-- Why a script is not replaced, if the stage is not spoiled.
use Rattle.script_host.specs.declared.fault.ReplaceFault.{ReplaceFault}
use Rattle.script_host.specs.declared.fault.ReplaceFault.TheVariants as place
use Rattle.cascade_core.specs.declared.fault.PlaceFault.{PlaceFault}
use Rattle.cascade_core.specs.declared.fault.PlaceFault.TheVariants as fault

abbrev pub place_fault_of : ReplaceFault → PlaceFault
place_fault_of place.NoSuchScript = fault.NoSuchScript
place_fault_of place.KindDiffers = fault.KindDiffers
place_fault_of place.Memory = fault.Memory
