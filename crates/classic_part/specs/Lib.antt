pub mod Groupings
pub mod Index
pub mod Notes
pub mod Part
pub mod Rounds
pub mod Rules
