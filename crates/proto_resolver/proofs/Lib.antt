pub mod Names
pub mod Standing
pub mod Rows
pub mod Steps
pub mod Interiors
pub mod Declared
pub mod Entered
pub mod Numbers
