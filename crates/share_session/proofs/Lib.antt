pub mod FieldLaws
pub mod DatagramLaws
pub mod RunLaws
pub mod FollowLaws
pub mod Lengths
pub mod NameLaws
pub mod RangeLaws
pub mod WelcomeLaws
