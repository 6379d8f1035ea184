pub mod Ending
pub mod PortLaws
pub mod Stages
pub mod Told
