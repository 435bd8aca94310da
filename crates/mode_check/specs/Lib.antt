-- The mode `check`.
pub mod Check
