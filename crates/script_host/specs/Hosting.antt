-- What callers see of the scripts of a world: the definitions of script_slots.
pub use Rattle.script_slots.specs.Hosting.{SlotView, fresh_record, answer_of, counts_after, after_call, CalledAt, TakesAt}
