-- Faults of expansion.
use Rattle.std.specs.Prelude.{ℕ}
use Rattle.proto_flat.specs.declared.fault.ExpandFault.{ExpandFault}
use Rattle.proto_flat.specs.declared.fault.ExpandFaultKind.{ExpandFaultKind}
use Rattle.proto_flat.specs.declared.fault.ExpandFaultKind.TheVariants.{Memory}

abbrev pub fault : ExpandFaultKind → ℕ → ExpandFault
fault kind line = record { kind = kind; line = line }

-- the fault if memory is refused
abbrev pub memory : ExpandFault
memory = fault Memory 0
