pub mod Events
pub mod Modes
pub mod Others
pub mod Plains
pub mod Runnable
pub mod States
pub mod Winning
pub mod Xlates
