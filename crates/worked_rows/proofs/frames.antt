mod Shown
mod Ethernet
mod Arp
mod Ipv4
mod Ipv6
mod Extensions
