-- The kinds of scripts and their interfaces: the definitions of script_slots.
pub use Rattle.script_slots.specs.Interface.{kind_word, first_kind, all_kinds, kind_named, inputs, settings, outputs, interface}
