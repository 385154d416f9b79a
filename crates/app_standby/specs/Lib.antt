pub mod Pace
pub mod State
pub mod Origins
pub mod Shared
pub mod Steps
