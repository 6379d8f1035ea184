pub mod Prefixes
mod Sends
mod Skipped
mod Written
mod First
mod Filters
pub mod Unsent
mod Batches
mod Passed
