pub mod Translations
pub mod Keys
pub mod ScheduledViews
pub mod ByNumber
pub mod Fields
pub mod Running
pub mod Taken
pub mod Attempts
