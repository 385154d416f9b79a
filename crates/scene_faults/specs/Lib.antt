pub mod Blame
pub mod Ends
pub mod Faults
pub mod Fields
pub mod Index
pub mod Laws
pub mod Texts
