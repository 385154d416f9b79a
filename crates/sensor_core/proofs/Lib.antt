pub mod CycleLemmas
pub mod PartLemmas
pub mod Passed
pub mod SensorLaws
