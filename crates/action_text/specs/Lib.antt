pub mod ActionsRead
pub mod Arguments
pub mod Brackets
pub mod ItemStarts
pub mod Spelled
pub mod WordsRead
