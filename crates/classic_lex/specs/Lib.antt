pub mod FaultName
pub mod Front
pub mod Header
pub mod Lexed
pub mod Spans
pub mod Tokens
