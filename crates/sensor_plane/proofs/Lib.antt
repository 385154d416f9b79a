pub mod Dragging
pub mod Fitting
pub mod Paths
pub mod Pointings
pub mod Resting
pub mod Sending
pub mod Sets
pub mod Shifts
