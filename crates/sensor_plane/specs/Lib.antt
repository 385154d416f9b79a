pub mod Examples
pub mod Numbers
pub mod Paths
pub mod PlaneFields
pub mod PlaneParts
pub mod Planes
pub mod Pointing
pub mod Meeting
