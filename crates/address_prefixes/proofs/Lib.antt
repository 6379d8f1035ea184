pub mod AddressLaws
pub mod FieldLaws
pub mod Lengths
pub mod MatchLaws
pub mod PairLaws
pub mod PrefixTests
pub mod TrieLaws
pub mod Widths
