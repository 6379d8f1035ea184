pub mod Bundles
pub mod KeyLaws
pub mod MemberLaws
pub mod UnionLaws
pub mod PrefixLaws
pub mod WinnerLaws
pub mod ProbeLaws
pub mod KeysAlike
pub mod StatesAlike
pub mod ActLaws
pub mod RunLaws
pub mod SoundLaws
pub mod LookupLaws
pub mod CommitLaws
pub mod ProperLaws
pub mod WithinLaws
pub mod MaskLaws
mod Rows
