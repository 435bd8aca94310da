-- The mode `grant`.
pub mod GrantPage
