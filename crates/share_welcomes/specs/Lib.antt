pub mod Learned
pub mod Versions
pub mod Coming
pub mod Answers
pub mod Passing
pub mod Laws
