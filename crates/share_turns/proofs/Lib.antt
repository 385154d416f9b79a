pub mod Answering
pub mod Sending
pub mod Turning
pub mod Taking
pub mod Viewing
pub mod Meeting
mod Gathering
mod Running
mod Giving
mod Whole
