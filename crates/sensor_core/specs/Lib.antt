pub mod Cycles
pub mod Events
pub mod Examples
pub mod Numbers
pub mod Parts
pub mod Ticks
pub mod Timing
pub mod Touches
