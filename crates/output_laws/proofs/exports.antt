pub mod Outputs
pub mod Decided
pub mod Arrivals
