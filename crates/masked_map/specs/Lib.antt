pub mod Compact
pub mod CompactMaps
pub mod Filters
pub mod Hashing
pub mod Listed
pub mod Maps
pub mod Marks
pub mod Unions
