pub mod NamedLaws
pub mod SliceLaws
mod WriteLaws
