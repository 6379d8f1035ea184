pub mod PortViews
pub mod CommandViews
