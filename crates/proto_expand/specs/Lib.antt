pub mod Tied
pub mod Rows
pub mod Whole
