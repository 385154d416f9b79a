pub mod Speakers
pub mod Told
pub mod Passing
pub mod Laws
