pub mod Digits
pub mod Equations
pub mod Walks
