pub mod Written
pub mod Cells
