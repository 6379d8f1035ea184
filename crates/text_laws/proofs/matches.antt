pub mod ItemsBack
pub mod WordsBack
pub mod PartsAt
pub mod Together
pub mod NamesBack
pub mod Blocks
pub mod Shorthands
pub mod Services
pub mod MatchesBack
pub mod LinesBack
pub mod FlowTexts
mod Rows
