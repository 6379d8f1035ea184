pub mod Folded
pub mod Within
pub mod Laid
