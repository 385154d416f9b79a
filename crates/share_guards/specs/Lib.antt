pub mod Guard
pub mod Kinds
pub mod Laws
pub mod Passing
pub mod Places
pub mod Seats
