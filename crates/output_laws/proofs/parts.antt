pub mod Sorted
pub mod Frames
pub mod BlocksOfParts
pub mod Apart
pub mod ByLast
pub mod OutputsOfParts
pub mod EachOnce
pub mod CountsOfParts
pub mod AllParts
pub mod ClassTimes
pub mod FlowsOfParts
mod Rows
