pub mod Notes
pub mod Watching
pub mod Winners
pub mod Pieces
