pub mod Walk
pub mod Captures
pub mod Consecutive
