pub mod Tables
pub mod TextNames
pub mod FirstLetters
pub mod Forms
pub mod CommaSteps
pub mod WordLists
