pub mod Following
pub mod Best
pub mod Applied
pub mod Members
pub mod Switches
