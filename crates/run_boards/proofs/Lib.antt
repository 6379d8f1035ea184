pub mod Places
pub mod Scheduled
pub mod BoardLists
pub mod Decided
pub mod Whole
pub mod Known
