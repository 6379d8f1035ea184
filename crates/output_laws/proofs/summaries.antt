pub mod Counted
pub mod SentAlike
pub mod SentPlainly
pub mod MadeApart
pub mod MadeRuns
mod Rows
