pub mod Going
pub mod Turns
pub mod Readings
