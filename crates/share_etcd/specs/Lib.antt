pub mod Numerals
pub mod Keys
pub mod Requests
pub mod Answers
pub mod Contents
pub mod Views
