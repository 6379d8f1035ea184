pub mod Lists
pub mod Views
pub mod Steps
pub mod Drops
pub mod Entries
pub mod Kept
pub mod Sums
