pub mod Hosts
pub mod HostTurns
pub mod Viewers
pub mod ViewerTurns
pub mod Joining
pub mod Giving
pub mod ViewerRuns
pub mod Rounds
pub mod Steps
mod Forgetting
