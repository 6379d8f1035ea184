pub mod PortLaws
pub mod TransportLaws
pub mod HeaderLaws
pub mod PaddingLaws
mod Rows
