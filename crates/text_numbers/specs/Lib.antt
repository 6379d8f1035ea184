pub mod Groups
pub mod Added
pub mod Digits
