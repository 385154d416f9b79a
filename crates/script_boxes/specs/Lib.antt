pub mod Boxes
pub mod Refused
