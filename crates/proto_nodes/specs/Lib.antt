pub mod Protos
pub mod Does
pub mod Frames
pub mod Shown
pub mod Steps
pub mod Giving
pub mod Scripts
