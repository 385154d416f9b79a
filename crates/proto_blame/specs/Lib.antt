pub mod Instance
pub mod Blamed
pub mod Blames
pub mod Relined
