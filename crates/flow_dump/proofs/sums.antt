pub mod Adding
pub mod Boards
pub mod Flows
