pub mod Cells
pub mod Blocks
pub mod Rows
