pub mod Peers
pub mod Leads
pub mod Moves
pub mod Begins
