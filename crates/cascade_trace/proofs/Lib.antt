pub mod Headings
pub mod SameEnds
pub mod RoutePlaces
mod Counting
mod Marks
mod Traces
mod Told
mod Behind
mod Passed
mod Forgets
mod Shifts
