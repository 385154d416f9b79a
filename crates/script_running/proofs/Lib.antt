pub mod Initialized
pub mod Runnings
mod Numbers
pub mod Listing
pub mod Outputs
pub mod CallLemmas
mod EntryLemmas
