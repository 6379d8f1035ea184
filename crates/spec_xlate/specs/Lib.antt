pub mod Tags
pub mod Needs
pub mod Commit
pub mod Translation
pub mod Lookup
pub mod Consulted
