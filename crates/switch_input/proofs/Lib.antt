pub mod Lists
pub mod Stages
pub mod Opened
pub mod Walk
pub mod MadeFiles
pub mod Untouched
pub mod Known
pub mod Verdicts
