mod Between
pub mod Times
pub mod Clocks
pub mod Pointers
pub mod Planes
mod Meets
pub mod Reactions
pub mod Rows
mod Ways
pub mod Behaviours
pub mod Outputs
pub mod Running
pub mod Calls
pub mod Casts
mod Places
mod Sending
mod Drags
pub mod Snapshots
mod States
pub mod Steps
pub mod Walks
pub mod Counted
mod Hits
mod Kept
mod Lowest
mod Openings
mod Ranged
mod Routes
mod Starts
mod Typed
pub mod DocumentWorlds
pub mod Values
pub mod Scenes
pub mod LongTraces
pub mod NetworksCounted
mod NetworksOutputs
pub mod Sent
pub mod Rewound
pub mod Saved
pub mod Countable
pub mod TextRewound
pub mod NetworksWorlds
