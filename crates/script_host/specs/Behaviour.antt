-- What a script does at each call: the definitions of script_slots.
pub use Rattle.script_slots.specs.Behaviour.{Call, CallAnswer, sends, keeps, number_of, is_one, clamped, next_count, counted, counter, opened, gate, added, adder, one_more, batch, mover, last_eight, mean, metered, meter, behave, Initialize, Receive, Settle}
unfoldable pub use Rattle.script_slots.specs.Behaviour.{part_way}
