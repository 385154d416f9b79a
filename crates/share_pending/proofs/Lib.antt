pub mod Offers
pub mod Ahead
pub mod Shows
pub mod Views
