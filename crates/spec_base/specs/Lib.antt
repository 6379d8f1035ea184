pub mod Counts
pub mod Files
pub mod Bytes
pub mod Bits
pub mod Machine
pub mod Sorting
