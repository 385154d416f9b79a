pub mod Instances
pub mod LeftOut
pub mod Parts
