pub mod Entries
pub mod Live
pub mod Order
pub mod Overlaps
pub mod Parts
pub mod Subtables
