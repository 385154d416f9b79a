pub mod HostDoings
pub mod ViewerDoings
pub mod Turns
pub mod Rounds
pub mod Steps
