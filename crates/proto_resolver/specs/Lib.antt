pub mod Held
pub mod Standing
pub mod Steps
pub mod Parts
pub mod Laws
