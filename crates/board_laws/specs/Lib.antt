pub mod Entries
pub mod Versions
pub mod Counts
pub mod Places
pub mod Boards
pub mod Runs
