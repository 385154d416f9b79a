pub mod Bits
pub mod Ends
pub mod Forgetting
pub mod LineText
pub mod Since
pub mod Spans
pub mod Staying
pub mod Trace
