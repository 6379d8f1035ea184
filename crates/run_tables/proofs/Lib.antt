pub mod Crossing
mod OfRun
