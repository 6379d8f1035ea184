pub mod Remembered
pub mod SweepLists
pub mod BoardView
pub mod Fields
