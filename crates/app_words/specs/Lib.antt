pub mod Options
pub mod Commands
pub mod Words
pub mod Request
pub mod Misfits
