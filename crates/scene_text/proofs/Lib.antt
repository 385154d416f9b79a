pub mod DeclaredFields
pub mod Documents
pub mod Listed
pub mod Ranges
pub mod Trees
