pub mod Answers
pub mod NodeAnswers
pub mod LogAnswers
pub mod FileAnswers
pub mod Parts
pub mod Points
