pub mod EntryLaws
pub mod Tests
pub mod Loops
pub mod FrameLaws
pub mod HeadLaws
pub mod ChainLaws
pub mod BaseLaws
