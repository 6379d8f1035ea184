pub mod Flows
pub mod Datagrams
