pub mod Crossing
pub mod HashLaws
pub mod KeyLaws
