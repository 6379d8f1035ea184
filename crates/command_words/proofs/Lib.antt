pub mod Lists
pub mod PortWords
pub mod Rows
