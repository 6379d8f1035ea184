pub mod LockstepLaws
pub mod PairLaws
pub mod NumberLaws
pub mod KeptLaws
pub mod ListLaws
pub mod SameActions
pub mod MaskLaws
pub mod OrderLaws
