pub mod Cuts
pub mod Reading
pub mod Rows
pub mod StepWords
