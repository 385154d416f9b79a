pub mod Entry
pub mod Hits
