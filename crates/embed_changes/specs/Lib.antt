pub mod Numbers
pub mod Values
pub mod Outputs
pub mod OutputBytes
pub mod Changes
pub mod Laws
