pub mod Lockstep
pub mod Live
pub mod Twins
pub mod Pairs
pub mod Changes
