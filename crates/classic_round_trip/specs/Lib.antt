pub mod Again
pub mod AnyLength
pub mod Spellable
