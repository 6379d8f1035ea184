pub mod Blocks
pub mod PlacesOfPorts
pub mod Walks
