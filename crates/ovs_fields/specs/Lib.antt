pub mod Equality
pub mod Feeding
pub mod Hashing
pub mod Lists
pub mod Packed
pub mod Runs
