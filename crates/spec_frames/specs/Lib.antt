pub mod Ethernet
pub mod Arp
pub mod Ipv4
pub mod Ipv6
pub mod Network
pub mod Transport
pub mod Layout
pub mod Key
