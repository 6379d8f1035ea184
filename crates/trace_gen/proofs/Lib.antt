pub mod States
pub mod Pieces
pub mod Records
pub mod Traces
pub mod Lengths
