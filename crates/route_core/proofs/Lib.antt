pub mod Counts
pub mod Fields
pub mod Lists
pub mod Repeats
pub mod RowTables
pub mod Tables
pub mod Sources
mod Seen
