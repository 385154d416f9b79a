pub mod Running
pub mod Table
pub mod Laws
pub mod Runs
pub mod Scripts
pub mod Acting
pub mod Ports
pub mod Values
