pub mod CompactLaws
pub mod Crossing
pub mod FilterLaws
pub mod MapLaws
pub mod UnionLaws
pub mod WordLaws
