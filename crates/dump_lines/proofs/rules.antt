pub mod Added
pub mod InOrder
pub mod Listed
pub mod Pieces
pub mod Rising
