pub mod FaultName
pub mod Grouping
pub mod Quantities
pub mod Rotations
pub mod Typing
