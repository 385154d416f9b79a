-- Why the process's own words can't be read.
use Rattle.app_faults.specs.declared.fault.OrderFault.{OrderFault}
use Rattle.app_faults.specs.declared.fault.OrderFault.TheVariants.{Words, Memory}
use Rattle.std.specs.declared.io.ErrorKind.{ErrorKind}
use Rattle.std.specs.declared.io.ErrorKind.TheVariants.{OutOfMemory}

-- memory was refused, or one of them is not a text
abbrev pub order_fault_of : ErrorKind → OrderFault
order_fault_of OutOfMemory = Memory
order_fault_of _ = Words
