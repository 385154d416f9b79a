pub mod Heap
pub mod HostHeld
pub mod LogHeld
pub mod PartHeld
pub mod ViewerHeld
pub mod WorldHeld
