pub mod Loadable
pub mod Parts
pub mod Entries
