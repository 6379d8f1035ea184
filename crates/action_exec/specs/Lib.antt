pub mod Shapes
pub mod Placed
pub mod Following
pub mod Visits
