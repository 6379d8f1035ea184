pub mod Bits
pub mod Filters
pub mod Steps
pub mod ItemTexts
pub mod Unstated
