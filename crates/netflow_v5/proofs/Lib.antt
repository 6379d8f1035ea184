mod Packets
mod Classes
mod NewestFlows
mod OpenFlows
mod DatagramWalk
mod InDatagrams
