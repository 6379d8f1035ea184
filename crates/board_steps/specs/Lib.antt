pub mod StepViews
pub mod Printable
