pub mod Fronts
pub mod LineTexts
