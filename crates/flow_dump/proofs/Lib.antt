pub mod Lines
pub mod Counted
pub mod Sending
pub mod JournalSums
pub mod Numbered
pub mod RuleTexts
pub mod LookLines
