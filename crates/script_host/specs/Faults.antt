-- The names of the faults.
use Rattle.std.specs.Prelude.{ℕ, List, codes}
use Rattle.script_host.specs.declared.fault.AttachFault.{AttachFault}
use Rattle.script_host.specs.declared.fault.AttachFault.TheVariants as attach
use Rattle.script_host.specs.declared.fault.ReplaceFault.{ReplaceFault}
use Rattle.script_host.specs.declared.fault.ReplaceFault.TheVariants as replace
pub use Rattle.script_slots.specs.Faults.{state_fault_name}

abbrev pub attach_fault_name : AttachFault → List ℕ
attach_fault_name (attach.UnknownScript k) = codes "UnknownScript"
attach_fault_name attach.WrongCount = codes "WrongCount"
attach_fault_name (attach.KindDiffers k) = codes "KindDiffers"
attach_fault_name (attach.InterfaceMismatch k) = codes "InterfaceMismatch"
attach_fault_name (attach.StartMismatch k) = codes "StartMismatch"
attach_fault_name attach.Memory = codes "Memory"

abbrev pub replace_fault_name : ReplaceFault → List ℕ
replace_fault_name replace.NoSuchScript = codes "NoSuchScript"
replace_fault_name replace.KindDiffers = codes "KindDiffers"
replace_fault_name replace.Memory = codes "Memory"
