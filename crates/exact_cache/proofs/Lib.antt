mod KeptSlots
pub mod SameSlots
