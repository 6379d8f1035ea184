pub mod Shown
pub mod Runs
mod Rows
mod Refused
mod StepRows
