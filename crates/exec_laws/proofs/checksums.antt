pub mod Sums
pub mod Cover
pub mod Writes
pub mod Transport
pub mod Reach
pub mod TransportSum
pub mod Protocols
pub mod Ipv4Sum
pub mod Law
pub mod Tagged
pub mod Actions
mod Rows
