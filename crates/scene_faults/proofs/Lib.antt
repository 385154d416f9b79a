pub mod Blamed
pub mod Blameless
pub mod Walks
