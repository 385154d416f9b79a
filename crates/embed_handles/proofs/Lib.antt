pub mod HostHandles
pub mod LogHandles
pub mod PartHandles
pub mod ViewerHandles
pub mod WorldHandles
pub mod Values
