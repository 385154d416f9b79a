pub mod Equations
pub mod Grown
pub mod Lighter
pub mod Trees
pub mod Walks
pub mod Weights
