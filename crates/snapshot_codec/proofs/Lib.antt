pub mod Appends
pub mod HeadLaws
pub mod InputLaws
pub mod KeptLaws
pub mod Loops
pub mod PartLaws
pub mod Signed
pub mod TraceLaws
pub mod ValueLaws
mod Listed
mod Typed
