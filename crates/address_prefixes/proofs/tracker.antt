pub mod Alike
pub mod AlikeLists
pub mod Crossing
pub mod Deciding
pub mod Difference
pub mod LookLaws
pub mod Nodes
pub mod Times
