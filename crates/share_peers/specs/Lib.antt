pub mod Table
pub mod Reach
