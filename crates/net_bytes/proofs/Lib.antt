pub mod Readings
pub mod OnesComplement
