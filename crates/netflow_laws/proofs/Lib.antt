mod EachPacket
mod FlowSums
mod ReadBack
pub mod IcmpPorts
mod RunWidths
