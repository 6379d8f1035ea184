pub mod Begun
pub mod Kept
pub mod Made
pub mod ScriptViews
pub mod WellFormed
pub mod Fronts
