pub mod Answer
pub mod Kept
pub mod Waiting
pub mod Showing
pub mod Reading
pub mod Written
