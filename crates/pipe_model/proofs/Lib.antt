mod Acting
mod Emitting
mod InOrder
pub mod Looking
mod Moving
mod Others
mod RunEvents
pub mod Rising
pub mod Versions
pub mod Winners
