pub mod Commands
pub mod InputViews
pub mod Refused
pub mod Statuses
pub mod Ends
pub mod Leaving
pub mod Pieces
