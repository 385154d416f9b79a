pub mod Scanning
pub mod Spaces
