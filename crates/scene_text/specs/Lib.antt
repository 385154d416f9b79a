pub mod Defaulted
pub mod Places
pub mod Raw
pub mod SceneText
pub mod Statements
pub mod Tree
pub mod Views
