pub mod Views
pub mod WordViews
pub mod PrintedForms
pub mod CommaLists
