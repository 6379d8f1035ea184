pub mod Visits
pub mod Keys
pub mod Decided
pub mod Outputs
