-- The names of the faults of key files, as they are printed.
use Rattle.std.specs.Prelude.{ℕ, List, codes}
use Rattle.share_key_files.specs.declared.fault.KeyFault.{KeyFault}
use Rattle.share_key_files.specs.declared.fault.KeyFault.TheVariants.{BadLine, ViewerTwice, NoKeys, TooManyKeys}

abbrev pub key_fault_name : KeyFault → List ℕ
key_fault_name BadLine = codes "BadLine"
key_fault_name ViewerTwice = codes "ViewerTwice"
key_fault_name NoKeys = codes "NoKeys"
key_fault_name TooManyKeys = codes "TooManyKeys"
