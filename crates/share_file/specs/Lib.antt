pub mod Entries
pub mod Contents
pub mod Keeping
pub mod Making
