pub mod Faults
mod Making
pub mod OneFit
pub mod ReadingLemmas
pub mod Narrow
pub mod NumberLists
pub mod WayLemmas
