mod Heads
mod KeptRows
mod LineLaws
pub mod NodeLaws
mod NodeLoops
mod Saves
pub mod ShotHeads
pub mod ShotLaws
pub mod StateLaws
pub mod StateSizes
pub mod WorldLaws
pub mod BesideLaws
pub mod Growing
mod PartSizes
pub mod SetLaws
mod Ways
