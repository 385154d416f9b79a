pub mod Points
pub mod Job
pub mod Faults
pub mod Schedule
