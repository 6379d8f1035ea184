pub mod Progress
pub mod Scheduled
pub mod Boards
pub mod Finished
pub mod Arrivals
