-- The names of faults.
use Rattle.std.specs.Prelude.{ℕ, List, codes}
use Rattle.proto_flat.specs.declared.fault.ExpandFaultKind.{ExpandFaultKind}
use Rattle.proto_flat.specs.declared.fault.ExpandFaultKind.TheVariants.{UnknownNode, UnknownField, ProtoTwice, ProtoItself, EmptyBody, BadIs, UseWithoutDef, FieldTwice, TooLarge, Memory}

-- the name of the variant
abbrev pub fault_name : ExpandFaultKind → List ℕ
fault_name UnknownNode = codes "UnknownNode"
fault_name UnknownField = codes "UnknownField"
fault_name ProtoTwice = codes "ProtoTwice"
fault_name ProtoItself = codes "ProtoItself"
fault_name EmptyBody = codes "EmptyBody"
fault_name BadIs = codes "BadIs"
fault_name UseWithoutDef = codes "UseWithoutDef"
fault_name FieldTwice = codes "FieldTwice"
fault_name TooLarge = codes "TooLarge"
fault_name Memory = codes "Memory"
