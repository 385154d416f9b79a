mod Lines
mod Running
mod Heads
mod Recalls
mod Lasting
mod Unbroken
mod EntryLines
mod Again
pub mod Passed
mod Beats
pub mod Firsts
