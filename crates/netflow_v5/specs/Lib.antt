pub mod Views
pub mod Newest
pub mod Joined
pub mod Reading
