pub mod Fields
pub mod Head
pub mod Inputs
pub mod Parts
pub mod Reads
pub mod Trace
pub mod Values
pub mod Ranges
