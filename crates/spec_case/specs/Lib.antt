pub mod Run
pub mod Blocks
pub mod Arrivals
