pub mod Narrow
pub mod Explained
