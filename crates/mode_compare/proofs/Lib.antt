-- The page of `compare`.
pub mod Arguments
