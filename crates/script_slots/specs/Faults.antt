-- The names of the faults of states.
use Rattle.std.specs.Prelude.{ℕ, List, codes}
use Rattle.script_slots.specs.declared.fault.StateFault.{StateFault}
use Rattle.script_slots.specs.declared.fault.StateFault.TheVariants as state

abbrev pub state_fault_name : StateFault → List ℕ
state_fault_name state.StateLength = codes "StateLength"
state_fault_name state.StateRange = codes "StateRange"
state_fault_name state.Memory = codes "Memory"
