pub mod OneLog
pub mod Memory
