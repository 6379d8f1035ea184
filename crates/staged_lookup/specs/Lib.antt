pub mod Counts
pub mod Numbered
pub mod Ranks
pub mod Stages
pub mod Subtables
