pub mod Cookies
pub mod Secrets
