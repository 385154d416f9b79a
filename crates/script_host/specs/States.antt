-- Which lists are states of a script: the definitions of script_slots.
pub use Rattle.script_slots.specs.States.{integer_fits, pending_fits, range_fault, counter_fault, gate_fault, adder_fault, batch_fault, place_fits, mover_fault, meter_fault, state_fault}
