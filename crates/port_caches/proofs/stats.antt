pub mod Credits
pub mod SameTotals
