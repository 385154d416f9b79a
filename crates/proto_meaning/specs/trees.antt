pub mod Given
pub mod Values
pub mod Meaning
pub mod Resolved
pub mod TreeLaws
