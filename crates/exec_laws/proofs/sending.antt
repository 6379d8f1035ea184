pub mod Emitted
pub mod MadeKeys
pub mod TagTypes
pub mod MadeOutputs
pub mod LaterCommits
pub mod WholeHeaders
pub mod Sent
mod Rows
