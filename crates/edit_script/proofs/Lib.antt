pub mod FirstWords
pub mod Fronts
pub mod WellFormed
pub mod Changes
pub mod Bundling
pub mod Told
