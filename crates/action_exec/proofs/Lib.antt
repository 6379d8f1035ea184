pub mod Merging
pub mod Words
pub mod Correcting
pub mod Within
pub mod Tags
pub mod Visits
