pub mod RunTexts
pub mod Stated
pub mod Ends
pub mod LineParts
