pub mod Knowing
pub mod ListLaws
pub mod Porting
mod Stays
mod Forgotten
