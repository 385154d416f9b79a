-- The names of faults.
use Rattle.std.specs.Prelude.{ℕ, List, codes}
use Rattle.route_core.specs.declared.fault.RouteFaultKind.{RouteFaultKind}
use Rattle.route_core.specs.declared.fault.RouteFaultKind.TheVariants.{NoSuchNode, NoSuchField, NotOutput, NotInput, TypesDiffer, NodeEvent, TooMany, Memory}

-- the name of the variant
abbrev pub fault_name : RouteFaultKind → List ℕ
fault_name NoSuchNode = codes "NoSuchNode"
fault_name NoSuchField = codes "NoSuchField"
fault_name NotOutput = codes "NotOutput"
fault_name NotInput = codes "NotInput"
fault_name TypesDiffer = codes "TypesDiffer"
fault_name NodeEvent = codes "NodeEvent"
fault_name TooMany = codes "TooMany"
fault_name Memory = codes "Memory"
