pub mod Rules
pub mod Edits
pub mod Bundles
pub mod Live
pub mod Changes
