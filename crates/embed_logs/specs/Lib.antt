pub mod LogFaults
pub mod Appending
pub mod Opening
pub mod Files
