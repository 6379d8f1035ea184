pub mod LookedUp
pub mod Progress
pub mod Turns
pub mod Frames
