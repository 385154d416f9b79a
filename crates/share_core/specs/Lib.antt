pub mod Host
pub mod Waiting
pub mod Steps
pub mod Viewer
pub mod Ahead
pub mod Rewinds
pub mod Pieces
pub mod Stored
