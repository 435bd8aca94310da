-- The mode `explain`.
pub mod ExplainPage
