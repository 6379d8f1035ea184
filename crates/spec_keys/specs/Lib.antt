pub mod Fields
pub mod Keys
pub mod Hash
pub mod Protocols
pub mod Stages
