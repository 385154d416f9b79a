pub mod Faults
pub mod Steps
pub mod Clocks
pub mod Info
pub mod Recalling
pub mod Beginning
pub mod Hosting
pub mod Replaying
