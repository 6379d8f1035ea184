pub mod Lines
pub mod Boards
pub mod StepCounts
pub mod Numbered
pub mod RuleTexts
pub mod Counted
pub mod Sums
pub mod LookLines
