pub mod Places
pub mod Hosts
pub mod Viewers
pub mod Saving
pub mod Begins
