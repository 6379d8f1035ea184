pub mod Live
pub mod Order
pub mod Pieces
pub mod Places
pub mod Parts
pub mod Runs
pub mod Views
