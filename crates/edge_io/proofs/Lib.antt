pub mod Always
pub mod Prefixes
pub mod Pieces
pub mod InTurn
pub mod Files
mod Filled
pub mod Refusals
pub mod Whole
pub mod Rows
