pub mod Refused
pub mod Put
pub mod RunFiles
pub mod OutletViews
pub mod Sources
