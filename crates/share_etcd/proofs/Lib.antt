pub mod NumeralLaws
pub mod AnswerLaws
pub mod DocumentLaws
pub mod Failing
pub mod RequestLaws
pub mod FrameLoops
