pub mod Fault
pub mod FaultName
