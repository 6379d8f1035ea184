pub mod InOrder
mod Rows
pub mod Places
