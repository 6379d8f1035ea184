pub mod LineViews
pub mod Agreeing
pub mod Listing
pub mod Meetings
