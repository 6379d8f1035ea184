pub mod Parts
pub mod Scans
pub mod Steps
pub mod Switches
