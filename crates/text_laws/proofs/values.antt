mod Lists
mod Cuts
mod DigitLaws
mod GroupLaws
mod AddressLaws
mod MaskLaws
mod CharacterLaws
pub mod WithinLaws
