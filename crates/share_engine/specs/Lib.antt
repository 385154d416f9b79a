pub mod Exchanges
pub mod Faults
pub mod Views
pub mod Reading
pub mod Keys
pub mod Opening
