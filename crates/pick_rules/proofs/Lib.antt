pub mod Entering
pub mod Fractions
pub mod Spans
pub mod Wide
