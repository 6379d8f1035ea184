pub mod Sending
pub mod Filters
pub mod Copies
pub mod Batches
