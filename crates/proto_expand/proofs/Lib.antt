mod Together
mod Floods
mod Sized
mod Resolved
