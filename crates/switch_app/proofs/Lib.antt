pub mod WithWorkers
pub mod Leaving
pub mod Ending
