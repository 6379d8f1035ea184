pub mod Growth
pub mod TagLists
