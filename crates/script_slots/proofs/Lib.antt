pub mod AskedLemmas
pub mod CallLemmas
mod Tables
