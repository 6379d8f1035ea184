pub mod Refused
pub mod Statuses
pub mod Ends
pub mod RunViews
