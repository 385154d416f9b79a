pub mod Entry
pub mod Chain
pub mod Frame
pub mod Head
pub mod Base
pub mod Start
