pub mod Forms
pub mod Chains
pub mod KeyLaws
