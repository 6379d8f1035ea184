pub mod Kept
pub mod SameSlots
