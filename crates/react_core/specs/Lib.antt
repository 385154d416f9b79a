pub mod Access
pub mod Interpolation
pub mod Keys
pub mod Numbers
pub mod Reaction
pub mod Sequence
pub mod Stored
