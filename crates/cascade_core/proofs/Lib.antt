pub mod Folds
mod Steps
pub mod Runs
pub mod Turns
pub mod SceneOutputs
pub mod Fuel
pub mod TaskLists
pub mod Gains
pub mod Keeping
mod Arrivals
pub mod Settled
mod KindLemmas
pub mod SettleLemmas
pub mod SoundLemmas
pub mod Resting
pub mod Depths
pub mod SoundPlans
pub mod Openings
pub mod Gained
mod Inputs
pub mod Installs
mod Places
pub mod RunFaults
mod Skipped
mod Walks
mod Beginnings
pub mod Sends
pub mod Shown
