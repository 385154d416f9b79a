pub mod Claims
pub mod Hmac
pub mod Keys
pub mod Seal
pub mod Table
