pub mod Loading
pub mod Nodes
pub mod Shot
pub mod ShotHead
pub mod WorldCodec
pub mod Beside
pub mod Opening
