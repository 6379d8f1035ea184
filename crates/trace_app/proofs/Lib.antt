mod Ending
mod PortsWithin
mod Printed
mod Stages
