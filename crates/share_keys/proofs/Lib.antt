pub mod Blocks
pub mod Lines
pub mod Openings
pub mod Seals
