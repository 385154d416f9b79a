mod Refusals
pub mod Stays
pub mod Attached
pub mod Made
