pub mod Names
pub mod Log
pub mod Calls
pub mod Told
pub mod Stands
pub mod Loaded
pub mod Rehearsed
pub mod Laws
