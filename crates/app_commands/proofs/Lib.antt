pub mod Staging
pub mod Loaded
pub mod Logging
pub mod JointJobs
pub mod Viewed
pub mod Agreed
