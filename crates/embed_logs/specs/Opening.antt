-- Why the log of a file isn't opened.
use Rattle.std.specs.Prelude.{◌≡◌, ◌⊎◌, ◌<◌, false, is_none, length, Result, Ok, Err}
use Rattle.x3d_values.specs.Ranges.{max_inputs}
use Rattle.share_file.specs.Contents.{FileView}
use Rattle.share_file.specs.declared.fault.OpenFault.{OpenFault}
use Rattle.embed_logs.specs.LogFaults.{fault_of_open}
use Rattle.embed_logs.specs.declared.fault.LogFileFault.{LogFileFault}
use Rattle.embed_logs.specs.declared.fault.LogFileFault.TheVariants.{Device, HasBase, LogFull, Memory}

-- the file has no log, by this fault, or one with a base, or of more entries than a world
abbrev pub IsFaultOf : Result FileView OpenFault → LogFileFault → Type 0
IsFaultOf (Ok v) fault =
    ((fault ≡ HasBase) × (is_none v.base ≡ false))
    ⊎ ((fault ≡ LogFull) × (max_inputs < length v.entries))
IsFaultOf (Err why) fault = fault ≡ fault_of_open why

-- the device failed, memory was refused, or this is the fault of what the file has
abbrev pub IsNotOpened : Result FileView OpenFault → LogFileFault → Type 0
IsNotOpened contents fault = (fault ≡ Device) ⊎ ((fault ≡ Memory) ⊎ IsFaultOf contents fault)
