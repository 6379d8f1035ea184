pub mod Packets
mod Rows
