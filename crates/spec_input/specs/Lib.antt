pub mod Words
pub mod Lines
pub mod Script
pub mod Given
pub mod Steps
pub mod Mirrors
pub mod Made
