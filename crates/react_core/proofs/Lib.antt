pub mod AnswerLemmas
pub mod KeyLemmas
pub mod PartLemmas
pub mod PlaceLemmas
pub mod Ways
