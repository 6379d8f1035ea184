mod EventBits
mod Needing
mod PacketPart
mod Placed
pub mod RunnableVersions
mod Soundness
