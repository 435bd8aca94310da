-- The mode `compare`.
pub mod Compare
