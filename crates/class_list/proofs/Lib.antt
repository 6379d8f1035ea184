pub mod SaidLaws
pub mod HoldLaws
pub mod ListLaws
pub mod ClassLaws
