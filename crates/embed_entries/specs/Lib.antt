pub mod Appends
pub mod Reading
