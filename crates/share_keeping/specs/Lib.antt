pub mod Said
pub mod Joiners
pub mod Applying
pub mod Forgetting
pub mod Shots
pub mod Giving
pub mod Keeping
