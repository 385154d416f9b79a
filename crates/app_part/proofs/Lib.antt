pub mod Empty
pub mod Judged
pub mod Lines
pub mod Mended
pub mod Names
pub mod Parting
pub mod Texts
