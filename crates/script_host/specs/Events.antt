-- Which events scripts take: the definitions of script_slots.
pub use Rattle.script_slots.specs.Events.{truth_fits, number_fits, event_fits, takes_event}
