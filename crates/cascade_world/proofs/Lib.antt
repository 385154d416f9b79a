mod Fitting
pub mod Shapes
pub mod Senders
pub mod Sensing
pub mod SensorReplies
pub mod PointingReplies
mod Blocks
mod Waiting
