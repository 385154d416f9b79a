pub mod Mapped
pub mod Resting
pub mod Rows
