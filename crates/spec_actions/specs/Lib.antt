pub mod Named
pub mod Sound
