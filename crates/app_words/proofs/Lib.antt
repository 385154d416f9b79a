pub mod AskedLemmas
pub mod CommandLemmas
pub mod NumberLemmas
pub mod OneLocal
pub mod OneNumber
pub mod OneOrder
pub mod OwnWords
pub mod WordLemmas
