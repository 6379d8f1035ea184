pub mod Writing
pub mod Update
