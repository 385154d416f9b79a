mod Trees
pub mod NodeSteps
mod Given
mod Begun
mod Left
mod Fillings
pub mod Waiting
pub mod Stepping
pub mod GivingGiven
pub mod Standing
