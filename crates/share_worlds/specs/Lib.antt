pub mod Wanted
pub mod Places
pub mod Queues
pub mod Ports
pub mod Due
pub mod Laws
