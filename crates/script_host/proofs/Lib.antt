pub mod AttachLemmas
pub mod OutputLemmas
pub mod PairLemmas
pub mod RestoreLemmas
