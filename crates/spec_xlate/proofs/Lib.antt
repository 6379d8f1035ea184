pub mod Shown
mod Rows
mod ConsultedRows
