pub mod Blanks
pub mod Lengths
pub mod Lenient
pub mod Marks
pub mod Pieces
pub mod Scan
pub mod VrmlHeader
